-- What is judged of a hart that has just arrived, and of one that has not.
use Rattle.std.proofs.Common.{◌≡◌, ℕ, true, false, refl}
use Rattle.std.specs.Prelude.{List, Option}
use Rattle.elf32_read.specs.Program.{Program}
use Rattle.break_table.specs.Arrival.{due_of}
use Rattle.break_table.specs.Entry.{Entry}
use Rattle.dbg_model.specs.Sources.{Sources}
use Rattle.dbg_model.specs.declared.course.Course.{Course}
use Rattle.dbg_model.specs.Judging.{judgement_of, no_arrival, verdict_behind}

-- what is judged of a hart that hasn't just arrived
pub judged_elsewhere : (p : Program) (sources : Sources) (entries : List Entry) (h : ℕ) (c : Course) (registers : ℕ → ℕ) (bytes : ℕ → Option ℕ) → c.fresh ≡ false
    → judgement_of p sources entries h c registers bytes ≡ no_arrival c.plan
unfolding judgement_of
judged_elsewhere p sources entries h c registers bytes is = rw is refl

-- what is judged of a hart that has
pub judged_here : (p : Program) (sources : Sources) (entries : List Entry) (h : ℕ) (c : Course) (registers : ℕ → ℕ) (bytes : ℕ → Option ℕ) → c.fresh ≡ true
    → judgement_of p sources entries h c registers bytes ≡ record { breaks = due_of h registers bytes entries; fired = c.fired; verdict = verdict_behind p sources c.plan registers c.last }
unfolding judgement_of
judged_here p sources entries h c registers bytes is = rw is refl
