-- What the tables of an image say of its program.
use Rattle.std.proofs.Common.{◌≡◌, ℕ, Bool, true, false, cond, List, [], ◌∷◌, map, find, Option, None, Some, refl, ◌∙◌, ap}
use Rattle.std.specs.Option.{option_map, option_map_or}
use Rattle.elf32_read.specs.Program.{Segment, in_segment, byte_of, is_writable, mapped}
use Rattle.elf32_read.specs.Headers.{loaded, segment_of, program_of}
use Rattle.elf32_read.specs.Ranges.{in_loaded, is_writable_header}

find_step : {X Y : Type 0} (b : Bool) (f : X → Y) (x : X) (o : Option Y) (found : Option X)
    → o ≡ option_map f found → cond b (Some (f x)) o ≡ option_map f (cond b (Some x) found)
find_step true f x o found e = refl
find_step false f x o found e = e

pub find-map : {X Y : Type 0} (p : Y → Bool) (f : X → Y) (xs : List X) → find p (map f xs) ≡ option_map f (find (λ x. p (f x)) xs)
find-map p f [] = refl
find-map p f (x ∷ xs) = find_step (p (f x)) f x (find p (map f xs)) (find (λ x. p (f x)) xs) (find-map p f xs)

pub option_map-twice : {X Y Z : Type 0} (g : Y → Z) (f : X → Y) (o : Option X) → option_map g (option_map f o) ≡ option_map (λ x. g (f x)) o
option_map-twice g f None = refl
option_map-twice g f (Some x) = refl

map_or-map : {X Y Z : Type 0} (g : Y → Z) (f : X → Y) (o : Option X) (d : Z) → option_map_or g (option_map f o) d ≡ option_map_or (λ x. g (f x)) o d
map_or-map g f None d = refl
map_or-map g f (Some x) d = refl

-- the byte at an address, by the headers
pub mapped-headers : (bytes : List ℕ) (addr : ℕ)
    → mapped (program_of bytes) addr ≡ option_map (λ h. byte_of addr (segment_of bytes h)) (find (in_loaded addr) (loaded bytes))
unfolding program_of
mapped-headers bytes addr =
    ap (option_map (byte_of addr)) (find-map (in_segment addr) (segment_of bytes) (loaded bytes))
    ∙ option_map-twice (byte_of addr) (segment_of bytes) (find (in_loaded addr) (loaded bytes))

-- whether the segment at an address may be written, by the headers
pub writable-headers : (bytes : List ℕ) (addr : ℕ)
    → option_map_or is_writable (find (in_segment addr) (program_of bytes).segments) false
    ≡ option_map_or is_writable_header (find (in_loaded addr) (loaded bytes)) false
unfolding program_of
writable-headers bytes addr =
    ap (λ (o : Option Segment). option_map_or is_writable o false) (find-map (in_segment addr) (segment_of bytes) (loaded bytes))
    ∙ map_or-map is_writable (segment_of bytes) (find (in_loaded addr) (loaded bytes)) false
