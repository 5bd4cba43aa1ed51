-- A line asks for a write into the program, and what it asks for is written.
use Rattle.std.proofs.Common.{◌≡◌, ℕ, ◌+◌, true, cond, List, [], ◌∷◌, ◌++◌, length, refl, sym, ap, ◌∙◌, subst, arith, inl}
use Rattle.std.specs.Prelude.{Some, None, slice_set}
use Rattle.std.specs.Option.{option_map}
use Rattle.std.specs.Str.{bytes_eq}
use Rattle.rv_exec.specs.Registers.{set}
use Rattle.rv_exec.specs.Memory.{Memory}
use Rattle.data_memory.specs.Ranges.{first_unwritable, with_bytes}
use Rattle.elf32_read.specs.Program.{Program}
use Rattle.plain_machine.specs.PlainRun.{is_settable}
use Rattle.hart_machine.specs.declared.hart.Core.{Core}
use Rattle.hart_machine.specs.Poking.{poked_core}
use Rattle.hart_machine.proofs.Places.{set_known}
use Rattle.dbg_model.specs.declared.entry.Entry.TheVariants.{Did, Poked}
use Rattle.dbg_model.specs.declared.entry.Poke.{Poke}
use Rattle.dbg_model.specs.declared.entry.Poke.TheVariants as poke
use Rattle.dbg_model.specs.declared.opening.Opening.{Opening}
use Rattle.dbg_model.specs.Lawful.{enter}
use Rattle.dbg_model.specs.Outcome.{pokes}
use Rattle.dbg_model.specs.Pokes.{is_pending, same_poke, with_poke, with_register, written}
use Rattle.dbg_model.specs.Reply.{changed_by}
use Rattle.dbg_model.specs.State.{State}
use Rattle.dbg_model.proofs.Adding.{added}
use Rattle.engine_parts.specs.declared.mind.Activity.TheVariants as activity
use Rattle.engine_parts.specs.declared.mind.Mind.{Mind}
use Rattle.engine_parts.specs.Seen.{Engine, seen, seen_with, told_of, seen_hart, seen_harts}
use Rattle.engine_parts.specs.Facts.{Sound, Harts, HartFact, Placed, Retired, AreCopied}
use Rattle.engine_parts.specs.Minds.{is_active}
use Rattle.engine_parts.proofs.Built.{poked}
use Rattle.engine_parts.proofs.Showing.{seen-set}
use Rattle.engine_parts.proofs.Counting.{retired_noted, retired_same, copied_same}
use Rattle.engine_parts.proofs.Updating.{Changes, updated, slots_same, equals}
use Rattle.engine_parts.proofs.Keeping.{Mover, Enters, entered, hart_at}
use Rattle.engine_parts.proofs.Stepping.{fact_of}

-- the state behind a line that asks for a write
abbrev pub asking : State → Poke → State
asking s p = changed_by s (pokes p)

bytes_same : (bytes : List ℕ) → bytes_eq bytes bytes ≡ true
bytes_same [] = refl
bytes_same (b ∷ bytes) = rw (equals b) (bytes_same bytes)

poke_same : (p : Poke) → same_poke p p ≡ true
poke_same (poke.Register h n v) = rw (equals h, equals n, equals v) refl
poke_same (poke.Bytes a bytes) = rw (equals a) (bytes_same bytes)

-- what is pending is written
enter_poked : (o : Opening) (s t : State) (p : Poke) → s.pending ≡ Some p → written s p ≡ Some t → enter o s (Poked p) ≡ Some (with_poke t)
unfolding enter
enter_poked o s t p is w =
    let pends : is_pending s.pending p ≡ true = ap (λ q. is_pending q p) is ∙ poke_same p in
    ap (λ b. cond b (option_map with_poke (written s p)) None) pends ∙ ap (option_map with_poke) w

-- the harts with these registers keep what is known of them
pub record Rewrites (r : Engine) (cs : List Core) : Type 0 where
  pub harts : Harts r.opening.image cs r.machine.slots r.minds r.hold
  pub retired : Retired cs r.journal
  pub copied : AreCopied r.opening.settings.slots cs r.minds r.displaced (seen r).passed (seen r).sets

-- what is seen behind the write
abbrev seen_poked : Engine → List ℕ → Poke → List Core → Memory → ℕ → State
seen_poked r line p cs m spare = seen_with (poked r line p cs m spare) (told_of (seen r))

-- the facts hold behind the line and its write
pub record Writes (r new : Engine) (p : Poke) : Type 0 where
  pub facts : Sound new
  pub comes : enter r.opening (asking (seen r) p) (Poked p) ≡ Some (seen new)

writes : (r : Engine) (line : List ℕ) (p : Poke) (cs : List Core) (m : Memory) (spare : ℕ) → Sound r → enter r.opening (seen r) (Did line) ≡ Some (asking (seen r) p)
    → enter r.opening (asking (seen r) p) (Poked p) ≡ Some (seen_poked r line p cs m spare) → Rewrites r cs → Writes r (poked r line p cs m spare) p
writes r line p cs m spare f did wrote w =
    let n = poked r line p cs m spare in
    let s = seen_poked r line p cs m spare in
    let first = added r.opening r.journal (seen r) (asking (seen r) p) (Did line) f.leaves refl did in
    let both = added r.opening (r.journal ++ Did line ∷ []) (asking (seen r) p) s (Poked p) first refl wrote in
    let d : Enters n s =
    entered n s f.settings both refl
    (record {
      count = f.count;
      selected = f.selected;
      harts = w.harts;
      slots = f.slots;
      planted = f.planted;
      texts = f.texts;
      places = f.places;
      many = f.many;
      awaits = f.awaits;
      sources = f.sources;
      retired = retired_noted cs (r.journal ++ Did line ∷ []) (Poked p) refl (retired_noted cs r.journal (Did line) refl w.retired);
      copied = w.copied;
    }) in
    record { facts = d.facts; comes = wrote ∙ ap Some d.seen }

-- two entries were noted
two_more : (n : ℕ) → (n + 1) + 1 ≡ n + 2
two_more n = omega arith

-- ---- a register

-- a stopped hart shows the registers that it has
register_seen : (p : Program) (c : Core) (x : Mind) (n v : ℕ) → x.activity ≡ activity.Stopped → with_register (seen_hart p c x) n v ≡ seen_hart p (poked_core c n v) x
register_seen p c x n v stops = rw stops refl

-- the harts that are seen behind it
harts_seen : (r : Engine) (h n v : ℕ) (c : Core) (x : Mind) → Mover r h c x → x.activity ≡ activity.Stopped
    → slice_set (seen r).harts h (with_register (seen_hart r.opening.image c x) n v) ≡ seen_harts r.opening.image (slice_set r.machine.cores h (poked_core c n v)) r.minds
harts_seen r h n v c x m stops =
    let p = r.opening.image in
    let d = poked_core c n v in
    ap (slice_set (seen r).harts h) (register_seen p c x n v stops)
    ∙ (sym (seen-set p r.machine.cores r.minds h d x) ∙ ap (seen_harts p (slice_set r.machine.cores h d)) (set_known r.minds h x m.mind))

register_written : (r : Engine) (h n v : ℕ) (c : Core) (x : Mind) → Mover r h c x → x.activity ≡ activity.Stopped → is_settable n ≡ true
    → written (asking (seen r) (poke.Register h n v)) (poke.Register h n v)
    ≡ Some (record (asking (seen r) (poke.Register h n v)) { harts = slice_set (seen r).harts h (with_register (seen_hart r.opening.image c x) n v) })
register_written r h n v c x m stops set = rw (hart_at r h c x m, stops, set) refl

register_enters : (r : Engine) (line : List ℕ) (h n v spare : ℕ) (c : Core) (x : Mind) → Mover r h c x → x.activity ≡ activity.Stopped → is_settable n ≡ true
    → enter r.opening (asking (seen r) (poke.Register h n v)) (Poked (poke.Register h n v)) ≡ Some (seen_poked r line (poke.Register h n v) (slice_set r.machine.cores h (poked_core c n v)) r.machine.memory spare)
register_enters r line h n v spare c x m stops set =
    let p : Poke = poke.Register h n v in
    let s = asking (seen r) p in
    let t : State = record s { harts = slice_set (seen r).harts h (with_register (seen_hart r.opening.image c x) n v) } in
    enter_poked r.opening s t p refl (register_written r h n v c x m stops set)
    ∙ ap Some (ap (λ ys. let u : State = record (with_poke s) { harts = ys } in u) (harts_seen r h n v c x m stops)
    ∙ ap (λ k. let u : State = record (seen_poked r line p (slice_set r.machine.cores h (poked_core c n v)) r.machine.memory spare) { noted = k } in u) (two_more r.noted))

-- a hart whose registers alone change is where it was in a step over a breakpoint, if it has left no slot
poked_fact : (r : Engine) (h n v : ℕ) (c : Core) (x : Mind) → Sound r → Mover r h c x → x.activity ≡ activity.Stopped → HartFact r.opening.image r.machine.slots r.hold h (poked_core c n v) x
poked_fact r h n v c x f m stops =
    let k = fact_of r h c x f m in
    let idle = k.idle (ap is_active stops) in
    record { placed = subst (λ q. Placed r.opening.image r.machine.slots h (poked_core c n v) q) (sym idle) tt; entered = k.entered; held = k.held; idle = k.idle }

register_rewrites : (r : Engine) (h n v : ℕ) (c : Core) (x : Mind) → Sound r → Mover r h c x → x.activity ≡ activity.Stopped → Rewrites r (slice_set r.machine.cores h (poked_core c n v))
register_rewrites r h n v c x f m stops =
    let p = r.opening.image in
    let d = poked_core c n v in
    let cs = slice_set r.machine.cores h d in
    let same = set_known r.minds h x m.mind in
    let change : Changes p r.machine.slots r.machine.slots r.hold r.hold h d x =
    record { slots = slots_same p r.machine.cores r.machine.slots r.minds r.hold h x x.phase f.harts m.mind refl; holds = λ k apart. refl; fact = poked_fact r h n v c x f m stops; holder = λ e is. inl is } in
    record {
      harts = subst (λ (ys : List Mind). Harts p cs r.machine.slots ys r.hold) same (updated p r.machine.cores r.machine.slots r.machine.slots r.minds r.hold r.hold h d x x f.harts m.mind change);
      retired = retired_same r.machine.cores h c d r.journal m.core refl f.retired;
      copied = subst (λ (ys : List Mind). AreCopied r.opening.settings.slots cs ys r.displaced (seen r).passed (seen r).sets) same
          (copied_same r.opening.settings.slots r.machine.cores r.minds h c d x x r.displaced (seen r).passed (seen r).sets m.core m.mind refl (λ some. omega arith) f.copied);
    }

-- a register of a stopped hart is set
pub writes_register : (r : Engine) (line : List ℕ) (h n v spare : ℕ) (c : Core) (x : Mind) → Sound r
    → enter r.opening (seen r) (Did line) ≡ Some (asking (seen r) (poke.Register h n v)) → Mover r h c x → x.activity ≡ activity.Stopped → is_settable n ≡ true
    → Writes r (poked r line (poke.Register h n v) (slice_set r.machine.cores h (poked_core c n v)) r.machine.memory spare) (poke.Register h n v)
writes_register r line h n v spare c x f did m stops set =
    writes r line (poke.Register h n v) (slice_set r.machine.cores h (poked_core c n v)) r.machine.memory spare f did (register_enters r line h n v spare c x m stops set) (register_rewrites r h n v c x f m stops)

-- ---- bytes

bytes_written : (r : Engine) (a : ℕ) (bytes : List ℕ) → first_unwritable r.machine.memory a (length bytes) ≡ None
    → written (asking (seen r) (poke.Bytes a bytes)) (poke.Bytes a bytes) ≡ Some (record (asking (seen r) (poke.Bytes a bytes)) { memory = with_bytes r.machine.memory a bytes })
bytes_written r a bytes all = rw all refl

bytes_enter : (r : Engine) (line : List ℕ) (a : ℕ) (bytes : List ℕ) (spare : ℕ) → first_unwritable r.machine.memory a (length bytes) ≡ None
    → enter r.opening (asking (seen r) (poke.Bytes a bytes)) (Poked (poke.Bytes a bytes)) ≡ Some (seen_poked r line (poke.Bytes a bytes) r.machine.cores (with_bytes r.machine.memory a bytes) spare)
bytes_enter r line a bytes spare all =
    let p : Poke = poke.Bytes a bytes in
    let s = asking (seen r) p in
    let m = with_bytes r.machine.memory a bytes in
    enter_poked r.opening s (record s { memory = m }) p refl (bytes_written r a bytes all)
    ∙ ap Some (ap (λ k. let u : State = record (seen_poked r line p r.machine.cores m spare) { noted = k } in u) (two_more r.noted))

-- bytes of data are written, which no patch and no hart stands on
pub writes_bytes : (r : Engine) (line : List ℕ) (a : ℕ) (bytes : List ℕ) (spare : ℕ) → Sound r → enter r.opening (seen r) (Did line) ≡ Some (asking (seen r) (poke.Bytes a bytes)) → first_unwritable r.machine.memory a (length bytes) ≡ None
    → Writes r (poked r line (poke.Bytes a bytes) r.machine.cores (with_bytes r.machine.memory a bytes) spare) (poke.Bytes a bytes)
writes_bytes r line a bytes spare f did all =
    writes r line (poke.Bytes a bytes) r.machine.cores (with_bytes r.machine.memory a bytes) spare f did (bytes_enter r line a bytes spare all) (record { harts = f.harts; retired = f.retired; copied = f.copied })
