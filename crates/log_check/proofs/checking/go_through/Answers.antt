use Rattle.std.proofs.Common.{◌≡◌, ◌<◌, ◌+◌, ◌∷◌, [], ◌++◌, List, suc, refl, ap, sym, ◌∙◌, arith, subst, take, drop, length, length-take-le}
use Rattle.std.proofs.lemmas.List.{take_more, take_all, take-append-drop}
use Rattle.std.proofs.Math.Seq.{drop-cons}
use Rattle.dbg_model.specs.declared.entry.Entry.{Entry}
use Rattle.dbg_model.specs.Journals.{come}
use Rattle.log_check.specs.Speech.{entry_text}
use Rattle.log_check.proofs.Going.{Stands, all_came, heard_none, heard_some, stands_first, stands_more, stops}
use Rattle.log_check.proofs.checking.go_through.Goals as goal

pub loop-i-init : goal.loop-i-init
loop-i-init g c = record {
  stands = stands_first g.S.Speaker.voice c.args.opening.now c.args.state.now.place c.args.hearing.now c.requires.first c.requires.agrees;
  kept = c.requires.of;
  within = c.requires.within;
  text = refl;
}

pub loop-i-preserved : goal.loop-i-preserved
loop-i-preserved g c =
    let v = g.S.Speaker.voice in
    let o = c.args.opening.now in
    let j = c.args.journal.now in
    let l = c.loop-i in
    let e : Entry = c.index-journal-i.result in
    let p = l.state.place in
    let heard = heard_some c.in_ok-take.field-0 (come o p e) (entry_text v o p.state e) c.take.new.state l.hearing c.take.new.hearing c.if-not-branch.false c.in_ok-take.ensures.heard in
    let low : l.i < length j = omega arith in
    let front : take l.i j ++ e ∷ [] ≡ take (l.i + 1) j = ap (λ (x : Entry). take l.i j ++ x ∷ []) c.index-journal-i.is ∙ sym (take_more j l.i e low) in
    let more = stands_more v o (take l.i j) e p c.take.new.state.place l.hearing c.take.new.hearing l.invariant.stands heard.0 heard.1 in
    record {
      stands = subst (λ (x : List Entry). Stands v o x c.take.new.state.place c.take.new.hearing) front more;
      kept = c.take.ensures.of;
      within = heard.1.within;
      text = heard.1.text ∙ l.invariant.text;
    }

pub returns-then-not-branch : goal.returns-then-not-branch
returns-then-not-branch g c =
    let v = g.S.Speaker.voice in
    let o = c.args.opening.now in
    let j = c.args.journal.now in
    let l = c.loop-i in
    let e : Entry = c.index-journal-i.result in
    let p = l.state.place in
    let none = heard_none c.in_ok-take.field-0 (come o p e) (entry_text v o p.state e) c.take.new.state l.hearing c.take.new.hearing c.if-not-branch.true c.in_ok-take.ensures.heard in
    let low : l.i < length j = omega arith in
    let count = length-take-le l.i j (omega arith) in
    let rest : drop l.i j ≡ e ∷ drop (suc l.i) j = drop-cons j l.i e low ∙ ap (λ (x : Entry). x ∷ drop (suc l.i) j) (sym c.index-journal-i.is) in
    let cut : j ≡ take l.i j ++ e ∷ drop (suc l.i) j = sym (take-append-drop l.i j) ∙ ap (λ (x : List Entry). take l.i j ++ x) rest in
    stops v o j (take l.i j) (drop (suc l.i) j) e p l.hearing (l.i + 1) cut (omega (arith, count)) l.invariant.stands none

pub returns : goal.returns
returns g c =
    let v = g.S.Speaker.voice in
    let o = c.args.opening.now in
    let j = c.args.journal.now in
    let l = c.loop-i in
    let all : take l.i j ≡ j = take_all l.i j (omega arith) in
    let came = all_came v o j l.state.place l.hearing (subst (λ (x : List Entry). Stands v o x l.state.place l.hearing) all l.invariant.stands) in
    (came.0, l.invariant.text, came.1)
