-- An engine before its first move.
use Rattle.std.proofs.Common.{◌≡◌, ◌≤◌, ℕ, zero, suc, ◌+◌, Bool, true, false, cond, List, [], ◌∷◌, ◌++◌, replicate, refl, sym, ap, ◌∙◌, subst, arith, inl, inr}
use Rattle.std.specs.Prelude.{Option, Some, None, ◌⊎◌, ◌&&◌, map, slice_get, slice_index}
use Rattle.std.specs.Option.{option_and_then}
use Rattle.scratch_slots.specs.declared.slots.SlotUse.{SlotUse}
use Rattle.scratch_slots.specs.Table.{use_at, is_address, slot_number}
use Rattle.mi_commands.specs.declared.command.Displaced.TheVariants as displaced
use Rattle.dbg_model.specs.Sources.{Sources, sources_of}
use Rattle.break_table.specs.Table.{Table, first_table}
use Rattle.break_table.specs.Text.{is_instruction, is_place}
use Rattle.std.proofs.lemmas.List.{length-replicate}
use Rattle.dbg_traits.specs.Settings.{AreSettings}
use Rattle.plain_machine.specs.Plain.{first_registers}
use Rattle.hart_machine.specs.declared.hart.Core.{Core}
use Rattle.hart_machine.specs.Stepping.{first_cores, loaded}
use Rattle.hart_machine.proofs.Places.{same_some}
use Rattle.hart_machine.specs.Patched.{Patched}
use Rattle.std.specs.Ordering.{nat_cmp}
use Rattle.std.specs.FinSet.{contains-empty}
use Rattle.break_table.specs.Entry.{Entry as BreakEntry}
use Rattle.dbg_model.specs.declared.entry.Entry.{Entry}
use Rattle.dbg_model.specs.declared.opening.Opening.{Opening}
use Rattle.dbg_model.specs.State.{State, first_state}
use Rattle.watch_points.specs.declared.watchpoint.Watch.{Watch}
use Rattle.dbg_model.specs.Journals.{Leaves}
use Rattle.dbg_model.proofs.Adding.{starts}
use Rattle.engine_parts.specs.declared.mind.Mind.{Mind}
use Rattle.engine_parts.specs.Minds.{awaited, first_mind}
use Rattle.break_table.specs.Table.{is_wait}
use Rattle.std.specs.List.{list_any}
use Rattle.elf32_read.specs.Program.{Program}
use Rattle.engine_parts.specs.Seen.{Engine, Told, seen, told_after}
use Rattle.engine_parts.specs.Facts.{Facts, Sound, HartFact, pending, wanted}
use Rattle.engine_parts.proofs.Updating.{none_some}
use Rattle.engine_parts.proofs.Showing.{first_seen, length_first, told_is}

abbrev pub run_at : Opening → ℕ → List Entry → Patched → List Mind → List Watch → Table → Sources → Engine
run_at o spare j m xs ws t sources =
    record {
      opening = o;
      journal = j;
      spare = spare;
      machine = m;
      minds = xs;
      hold = None;
      watches = ws;
      breaks = t.entries;
      given = t.given;
      bounds = t.text;
      waits = t.waits;
      sources = sources;
      selected = 1;
      displaced = displaced.Auto;
      retired = 0;
      noted = 0;
      exited = false;
      temporary = false;
    }

abbrev pub first_run : Opening → ℕ → Engine
first_run o spare = run_at o spare [] (loaded o.image o.settings.harts o.settings.slots) (replicate o.settings.harts first_mind) [] (first_table o.image o.settings.harts) (sources_of o.image)

last_or : {A : Type 0} (xs : List A) (x y : A) (h : ℕ) → slice_get (xs ++ x ∷ []) h ≡ Some y → (slice_get xs h ≡ Some y) ⊎ (x ≡ y)
last_or [] x y zero is = inr (same_some x y is)
last_or [] x y (suc h) is = cc
last_or (z ∷ zs) x y zero is = inl is
last_or (z ∷ zs) x y (suc h) is = last_or zs x y h is

none_yet : (entry harts n h : ℕ) (c : Core) → slice_get (first_cores entry harts n) h ≡ Some c → c.retired ≡ 0
none_yet entry harts zero h c is = cc
none_yet entry harts (suc n) h c is =
    elim (last_or (first_cores entry harts n) (record { regs = first_registers entry harts n; retired = 0; copied = 0; entered = None }) c h is) [
      | inl e ↦ none_yet entry harts n h c e
      | inr e ↦ ap (λ (d : Core). d.retired) (sym e)
    ]

none_entered : (entry harts n h : ℕ) (c : Core) → slice_get (first_cores entry harts n) h ≡ Some c → c.entered ≡ None
none_entered entry harts zero h c is = cc
none_entered entry harts (suc n) h c is =
    elim (last_or (first_cores entry harts n) (record { regs = first_registers entry harts n; retired = 0; copied = 0; entered = None }) c h is) [
      | inl e ↦ none_entered entry harts n h c e
      | inr e ↦ ap (λ (d : Core). d.entered) (sym e)
    ]

pub seen_begin : (o : Opening) (spare : ℕ) → seen (first_run o spare) ≡ first_state o
seen_begin o spare =
    ap (λ ys. let t = told_after o [] in let s : State = record (first_state o) { harts = ys; out = t.out; passed = t.passed; sets = t.sets } in s) (first_seen o.image o.settings.harts o.settings.harts)
    ∙ ap (λ (t : Told). let s : State = record (first_state o) { out = t.out; passed = t.passed; sets = t.sets } in s) (told_is o [] (first_state o) (starts o))

replicated : (n k : ℕ) (x : Mind) → slice_get (replicate n first_mind) k ≡ Some x → x ≡ first_mind
replicated zero k x at = cc
replicated (suc n) zero x at = sym (same_some first_mind x at)
replicated (suc n) (suc k) x at = replicated n k x at

no_break : {A : Type 0} (k : ℕ) (b : BreakEntry) → slice_get [] k ≡ Some b → A
no_break zero b at = cc
no_break (suc k) b at = cc

first_fact : (o : Opening) (slots : List (Option SlotUse)) (k : ℕ) (c : Core) (x : Mind) → c.entered ≡ None → x ≡ first_mind → HartFact o.image slots None k c x
first_fact o slots k c x out is = subst (λ (y : Mind). HartFact o.image slots None k c y) (sym is) (record { placed = tt; entered = out; held = refl; idle = λ e. refl })

-- no slot is out at the beginning
free_at : (n k : ℕ) → option_and_then (λ (u : Option SlotUse). u) (slice_get (replicate n None) k) ≡ None
free_at zero k = refl
free_at (suc n) zero = refl
free_at (suc n) (suc k) = free_at n k

free_by : (slot n : ℕ) (b : Bool) → cond b (option_and_then (λ (u : Option SlotUse). u) (slice_get (replicate n None) (slot_number slot))) None ≡ None
free_by slot n true = free_at n (slot_number slot)
free_by slot n false = refl

some_not : {A : Type 0} (a : A) → Some a ≡ None → ⊥
some_not a e = cc

free_use : (slot n : ℕ) (u : SlotUse) → {A : Type 0} → use_at (replicate n None) slot ≡ Some u → A
free_use slot n u e = let none : use_at (replicate n None) slot ≡ None = free_by slot n (is_address slot) in absurd (some_not u (sym e ∙ none))

zero_at : (n k : ℕ) → slice_index (replicate n 0) k ≡ 0
zero_at zero k = refl
zero_at (suc n) zero = refl
zero_at (suc n) (suc k) = zero_at n k

-- nothing was stepped over at the beginning
first_copied : (o : Opening) (spare h : ℕ) (c : Core) (x : Mind) → x ≡ first_mind → slice_index (seen (first_run o spare)).passed h + pending displaced.Auto x.phase ≤ c.copied + (seen (first_run o spare)).sets
first_copied o spare h c x is =
    let passed : slice_index (seen (first_run o spare)).passed h ≡ 0 = ap (λ (s : State). slice_index s.passed h) (seen_begin o spare) ∙ zero_at o.settings.harts h in
    let none : pending displaced.Auto x.phase ≡ 0 = ap (λ (y : Mind). pending displaced.Auto y.phase) is in
    omega (arith, passed, none)

-- the table knows where text stands
abbrev pub KnowsText : Opening → Table → Type 0
KnowsText o t = (a : ℕ) → is_place t.text a ≡ is_instruction o.image a

-- no hart waits at the beginning
none_waits : (a n : ℕ) → list_any (is_wait a) (replicate n None) ≡ false
none_waits a zero = refl
none_waits a (suc n) = none_waits a n

none_called : (a n : ℕ) → wanted (record { entries = []; waits = replicate n None; hold = None }) a ≡ false
none_called a n = ap (λ b. b && true) (none_waits a n)

none_await : (p : Program) (n : ℕ) → replicate n None ≡ map (awaited p) (replicate n first_mind)
none_await p zero = refl
none_await p (suc n) = ap (λ ws. None ∷ ws) (none_await p n)

begins : (o : Opening) (spare : ℕ) → AreSettings o.settings → KnowsText o (first_table o.image o.settings.harts) → Sound (first_run o spare)
begins o spare s places =
    let harts = length-replicate {A = Mind} o.settings.harts first_mind in
    record {
      leaves = subst (λ (t : State). Leaves o [] t) (sym (seen_begin o spare)) (starts o);
      settings = s;
      count = harts;
      selected = (omega arith, s.harts.0);
      harts = record {
        len = length_first o.image.entry o.settings.harts o.settings.harts ∙ sym harts;
        each = λ k c x dk xk. first_fact o (replicate o.settings.slots None) k c x (none_entered o.image.entry o.settings.harts o.settings.harts k c dk) (replicated o.settings.harts k x xk);
        holder = λ d e. none_some d e;
        used = λ slot u e. free_use slot o.settings.slots u e;
      };
      slots = length-replicate {A = Option SlotUse} o.settings.slots None;
      planted = record { words = refl; patches = λ a. contains-empty nat_cmp a ∙ sym (none_called a o.settings.harts) };
      texts = λ k b at. no_break k b at;
      places = places;
      many = length-replicate {A = Option ℕ} o.settings.harts None;
      awaits = λ a e. let none = none_waits a o.settings.harts in absurd cc;
      sources = refl;
      retired = λ h c at. none_yet o.image.entry o.settings.harts o.settings.harts h c at;
      copied = λ some h c x ec ex. first_copied o spare h c x (replicated o.settings.harts h x ex);
    }

pub record Begins (o : Opening) (r : Engine) : Type 0 where
  pub facts : Facts r
  pub state : seen r ≡ first_state o

pub begins_at : (o : Opening) (spare : ℕ) (j : List Entry) (m : Patched) (xs : List Mind) (ws : List Watch) (t : Table) (sources : Sources)
    → AreSettings o.settings → j ≡ [] → m ≡ loaded o.image o.settings.harts o.settings.slots → xs ≡ replicate o.settings.harts first_mind → ws ≡ []
    → t ≡ first_table o.image o.settings.harts → KnowsText o t → sources ≡ sources_of o.image → Begins o (run_at o spare j m xs ws t sources)
begins_at o spare j m xs ws t sources s none is are unwatched table places same =
    let P : List Entry → Patched → List Mind → List Watch → Table → Sources → Type 0 = λ j m xs ws t sources. Begins o (run_at o spare j m xs ws t sources) in
    let l = loaded o.image o.settings.harts o.settings.slots in
    let ys = replicate o.settings.harts first_mind in
    let u = first_table o.image o.settings.harts in
    let known : KnowsText o u = subst (KnowsText o) table places in
    let first : P [] l ys [] u (sources_of o.image) = record { facts = record { sound = begins o spare s known; waits = none_await o.image o.settings.harts }; state = seen_begin o spare } in
    subst (λ (k : List Entry). P k m xs ws t sources) (sym none)
    (subst (λ (n : Patched). P [] n xs ws t sources) (sym is)
    (subst (λ (zs : List Mind). P [] l zs ws t sources) (sym are)
    (subst (λ (vs : List Watch). P [] l ys vs t sources) (sym unwatched)
    (subst (λ (v : Table). P [] l ys [] v sources) (sym table)
    (subst (λ (n : Sources). P [] l ys [] u n) (sym same) first)))))
