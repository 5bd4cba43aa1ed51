-- Numbers of the standards: System V gABI, chapters 4 and 5, and the RISC-V ELF psABI.
use Rattle.std.specs.Prelude.{ℕ}

-- e_ident: ELFCLASS32 at 4, ELFDATA2LSB at 5 (gABI, ELF Identification)
abbrev pub ELFCLASS32 : ℕ
ELFCLASS32 = 1

abbrev pub ELFDATA2LSB : ℕ
ELFDATA2LSB = 1

-- e_type (gABI, ELF Header)
abbrev pub ET_EXEC : ℕ
ET_EXEC = 2

-- e_machine (psABI, File Header)
abbrev pub EM_RISCV : ℕ
EM_RISCV = 243

-- e_flags: EF_RISCV_RVC (1) and EF_RISCV_RVE (8) (psABI, File Header)
abbrev pub RVC_OR_RVE : ℕ
RVC_OR_RVE = 9

-- p_type (gABI, Program Header)
abbrev pub PT_LOAD : ℕ
PT_LOAD = 1

-- p_flags (gABI, Segment Permissions)
abbrev pub PF_X : ℕ
PF_X = 1

abbrev pub PF_W : ℕ
PF_W = 2

-- sh_type (gABI, Section Header)
abbrev pub SHT_NULL : ℕ
SHT_NULL = 0

abbrev pub SHT_NOBITS : ℕ
SHT_NOBITS = 8

-- sh_flags (gABI, Section Attribute Flags): SHF_ALLOC (2) and SHF_EXECINSTR (4)
abbrev pub ALLOC_AND_EXECINSTR : ℕ
ALLOC_AND_EXECINSTR = 6

abbrev pub SHF_COMPRESSED : ℕ
SHF_COMPRESSED = 0x800
