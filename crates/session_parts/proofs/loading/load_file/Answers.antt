use Rattle.std.proofs.Common.{◌≡◌, ◌∙◌, sym, ap, subst, rules}
use Rattle.std.specs.Prelude.{Err, Option}
use Rattle.dbg_traits.specs.Told.{Told}
use Rattle.elf_checks.specs.declared.fault.ElfReadError.{ElfReadError}
use Rattle.elf_checks.specs.Reading.{Reads}
use Rattle.dbg_model.specs.declared.opening.Opening.{Opening}
use Rattle.session_parts.specs.Scene.{Play, told_by, told_of}
use Rattle.session_parts.specs.Ties.{MayBegin}
use Rattle.session_parts.specs.Words.{ReadsSome}
use Rattle.session_parts.specs.declared.file.FileError.{FileError}
use Rattle.session_parts.proofs.Opening.{asks_still, early_file, early_read, early_room, read_memory, ready}
use Rattle.session_parts.proofs.loading.load_file.Goals as goal

pub returns-in-Err-Failed-clause-early : goal.returns-in-Err-Failed-clause-early
returns-in-Err-Failed-clause-early g c =
    let told = g.W.World.told in
    let e = c.early.ensures in
    let P : FileError → Type 0 = λ x. ReadsSome x c.args.name (told c.args.world) (told c.read_all.new.world) in
    rw (e.status, e.world) (early_read (told c.args.world) (told c.read_all.new.world) c.args.name c.args.settings c.args.has_log c.requires.fresh c.requires.asked (subst P c.in-Err-Failed.field-0-is c.in-Err-Failed.ensures))

pub returns-in-Err-NoMemory-clause-early : goal.returns-in-Err-NoMemory-clause-early
returns-in-Err-NoMemory-clause-early g c =
    let told = g.W.World.told in
    let e = c.early-in-Err-NoMemory.ensures in
    let P : FileError → Type 0 = λ x. ReadsSome x c.args.name (told c.args.world) (told c.read_all.new.world) in
    rw (e.status, e.world) (early_room (told c.args.world) (told c.read_all.new.world) c.args.name c.args.settings c.args.has_log c.requires.fresh c.requires.asked (subst P c.in-Err-NoMemory.field-0-is c.in-Err-NoMemory.ensures))

pub handed-requires : goal.handed-requires
handed-requires g c =
    let told = g.W.World.told in
    asks_still (told c.args.world) (told c.read_all.new.world) c.args.name c.args.settings c.args.has_log c.in-Ok.bytes.items c.requires.asked c.requires.ranges c.in-Ok.ensures

pub returns-clause-ready : goal.returns-clause-ready
returns-clause-ready g c =
    let told = g.W.World.told in
    let u = told c.read_all.new.world in
    let o : Opening = record { image = c.in-Ok-read_image.image; settings = c.args.settings } in
    let e = c.handed.ensures in
    let is : u ≡ told_of told c.handed.result =
    ap (λ (x : Option Play). told_by x u) (sym e.script) ∙ ap (λ (w : g.row.W.Denot). told_by c.handed.result.script (told w)) (sym e.world) in
    let P : Told → Type 0 = λ v. MayBegin v o in
    subst P is (ready (told c.args.world) u c.in-Ok.bytes.items c.args.name o c.args.has_log c.requires.fresh c.requires.asked c.in-Ok.ensures c.in-Ok-read_image.ensures.read)

pub returns-clause-early : goal.returns-clause-early
returns-clause-early g c =
    let told = g.W.World.told in
    rw c.handed.ensures.world (read_memory (told c.args.world) (told c.read_all.new.world) c.args.name c.args.settings c.args.has_log c.in-Ok.bytes.items c.requires.fresh c.requires.asked c.in-Ok.ensures)

pub returns-in_default-clause-early : goal.returns-in_default-clause-early
returns-in_default-clause-early g c =
    let told = g.W.World.told in
    let e = c.early-in_default.ensures in
    let same : c.put_bad_file.new.world ≡ c.read_all.new.world = search rules in
    rw (e.status, e.world, same) (read_memory (told c.args.world) (told c.read_all.new.world) c.args.name c.args.settings c.args.has_log c.in-Ok.bytes.items c.requires.fresh c.requires.asked c.in-Ok.ensures)

pub returns-in-Err-Fault-clause-early : goal.returns-in-Err-Fault-clause-early
returns-in-Err-Fault-clause-early g c =
    let told = g.W.World.told in
    let e = c.early-in-Err-Fault.ensures in
    let P : ElfReadError → Type 0 = λ x. Reads c.in-Ok.bytes.items (Err x) in
    let refused = subst P c.in-Err-Fault.field-0-is c.in-Err-Fault.ensures.read in
    let puts = rw c.in-Err-Fault.field-0-is at c.in-Ok-put_bad_file.ensures in
    rw (e.status, e.world, c.in-Err-Fault.field-0-is)
    (early_file _ (told c.args.world) (told c.read_all.new.world) (told c.put_bad_file.new.world) c.args.name c.args.settings c.args.has_log
    c.in-Ok.bytes.items c.in-Err-Fault.fault c.requires.fresh c.requires.asked c.in-Ok.ensures refused puts)

pub returns-in-Err-Memory-clause-early : goal.returns-in-Err-Memory-clause-early
returns-in-Err-Memory-clause-early g c =
    let told = g.W.World.told in
    let e = c.early-in-Err-Memory.ensures in
    rw (e.status, e.world) (read_memory (told c.args.world) (told c.read_all.new.world) c.args.name c.args.settings c.args.has_log c.in-Ok.bytes.items c.requires.fresh c.requires.asked c.in-Ok.ensures)
