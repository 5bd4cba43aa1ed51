-- The harts wait where their plans have them wait, after a move of one of them.
use Rattle.std.proofs.Common.{◌≡◌, ◌<◌, ◌≤◌, ◌^◌, ℕ, true, cond, inl, inr, sym, ap, ◌∙◌, subst}
use Rattle.std.proofs.lemmas.Bool.{cases_lt}
use Rattle.std.specs.Prelude.{None, IsSome, is_some, ◌⊎◌, map}
use Rattle.elf32_read.specs.Program.{Program, text_word}
use Rattle.text_words.specs.Words.{shown, unpatched}
use Rattle.text_words.proofs.Below.{word_above, word_below}
use Rattle.break_table.specs.Text.{is_place}
use Rattle.hart_machine.specs.Patched.{Patched}
use Rattle.break_table.specs.Table.{Table}
use Rattle.engine_parts.specs.declared.mind.Mind.{Mind}
use Rattle.engine_parts.specs.Minds.{awaited, in_place, return_of, runs}
use Rattle.engine_parts.specs.Seen.{Engine}
use Rattle.engine_parts.specs.Facts.{Sound}
use Rattle.engine_parts.proofs.Awaiting.{rewaited}
use Rattle.engine_parts.specs.Changing.{Retabled, wants_by}
use Rattle.dbg_model.proofs.Inserting.{word_place}
use Rattle.engine_parts.proofs.Holds.{Moved}
use Rattle.engine_parts.proofs.Halting.{Noted}

-- an engine with this machine and this table
abbrev pub with_table : Engine → Patched → Table → Engine
with_table r m t = record r { machine = m; breaks = t.entries; given = t.given; bounds = t.text; waits = t.waits }

-- the machine and the table after the harts wait where they are to
pub record Rewaits (q : Engine) (m : Patched) (t : Table) : Type 0 where
  pub table : t ≡ record { entries = q.breaks; given = q.given; text = q.bounds; waits = map (awaited q.opening.image) q.minds }
  pub machine : Retabled q.machine m (wants_by t q.hold)

pub rewaits : (Did : Engine → Type 0) (q : Engine) (m : Patched) (t : Table) → Noted q Did → Rewaits q m t → Moved (with_table q m t) (Did (with_table q m t))
rewaits Did q m t n w =
    let ws = map (awaited q.opening.image) q.minds in
    let t' : Table = record { entries = q.breaks; given = q.given; text = q.bounds; waits = ws } in
    let P : Patched → Table → Type 0 = λ m t. Moved (with_table q m t) (Did (with_table q m t)) in
    let planted = subst (λ (u : Table). Retabled q.machine m (wants_by u q.hold)) w.table w.machine in
    let base : P (record q.machine { text = m.text }) t' = record { facts = rewaited q m.text n.sound planted.words planted.planted; does = n.does m.text ws } in
    subst (λ (u : Table). P m u) (sym w.table) (subst (λ (k : Patched). P k t') (sym planted.rest) base)

-- one that stays as active, with the same plan, waits where it did
pub same_waits : (p : Program) (x y : Mind) → runs y ≡ runs x → y.course.plan ≡ x.course.plan → awaited p y ≡ awaited p x
same_waits p x y active plan = ap (λ b. cond b (in_place p (return_of y.course.plan)) None) active ∙ ap (λ q. cond (runs x) (in_place p (return_of q)) None) plan

-- a word of text is an instruction's place, as the table of breakpoints knows it
word_by : (p : Program) (a : ℕ) → (a < 2 ^ 32) ⊎ (2 ^ 32 ≤ a) → IsSome (shown (unpatched p) a) → is_some (text_word p a) ≡ true
word_by p a (inl low) is = sym (ap is_some (word_below (text_word p) (2 ^ 32) a low)) ∙ is
word_by p a (inr high) is = let e = sym (ap is_some (word_above (text_word p) (2 ^ 32) a high)) ∙ is in absurd cc

pub text_place : (r : Engine) → Sound r → (a : ℕ) → IsSome (shown (unpatched r.opening.image) a) → is_place r.bounds a ≡ true
text_place r f a is = f.places a ∙ word_place r.opening.image a (word_by r.opening.image a (cases_lt a (2 ^ 32)) is)
