-- Of an input one thing is found.
use Rattle.std.proofs.Common.{◌≡◌, ◌≤◌, ◌<◌, ◌+◌, ◌^◌, ℕ, List, [], ◌∷◌, ◌++◌, length, map, take, refl, sym, ap, ◌∙◌, subst, arith, append_assoc, length-append, inl, inr, Ok, true, not}
use Rattle.std.proofs.lemmas.List.{append-nil}
use Rattle.std.proofs.lemmas.Bool.{and_parts, cases_lt}
use Rattle.std.proofs.Math.Seq.{take-append_seam}
use Rattle.elf32_read.specs.Program.{Program}
use Rattle.dbg_traits.specs.declared.settings.Settings.{Settings}
use Rattle.dbg_model.specs.declared.entry.Entry.{Entry}
use Rattle.mi_reports.specs.Said.{said}
use Rattle.session_log.specs.declared.fault.FaultKind.{FaultKind}
use Rattle.session_log.specs.declared.fault.FaultKind.TheVariants.{Line, Order, End}
use Rattle.session_log.specs.declared.fault.LogFault.{LogFault}
use Rattle.session_log.specs.declared.log.Log.{Log}
use Rattle.session_log.specs.declared.row.LogRow.TheVariants as rows
use Rattle.std.specs.List.{list_all}
use Rattle.session_log.specs.LogText.{entry_text, is_ended, is_marked, is_plain, lines, log_text}
use Rattle.session_log.specs.Rows.{row_text}
use Rattle.session_log.specs.Faults.{AreFaultless, Follows, at_line, at_end, HasEnd, HasFault, IsFirstFault, fault_number}
use Rattle.session_log.specs.Found.{IsLogOf}
use Rattle.session_log.proofs.Again.{is_judged, one_transcript}
use Rattle.session_log.proofs.Faults.{fault_told}
use Rattle.session_log.proofs.Pieces.{whole_lines}
use Rattle.session_log.proofs.Whole.{log_in_lines, log_lines}
use Rattle.log_check.specs.Verdict.{Checked, IsFirstPlace}
use Rattle.log_check.specs.declared.verdict.CheckVerdict.{CheckVerdict}
use Rattle.log_check.specs.declared.verdict.CheckVerdict.TheVariants as verdict
use Rattle.log_check.specs.Speech.{speech}
use Rattle.log_check.proofs.One.{one_verdict}
use Rattle.session_check.specs.Speaking.{line_voice}
use Rattle.session_check.specs.Findings.{Finds, FindsIn, HasDifference, HasUnlawful, IsRecord, opened}
use Rattle.session_check.specs.declared.finding.Finding.{Finding}
use Rattle.session_check.specs.declared.finding.Finding.TheVariants.{Accepted, Long, Fault, Unlawful, Differs}
use Rattle.session_check.proofs.Spoken.{speech_said}

-- ---- one log

pub one_log : (input : List ℕ) (a b : Log) → IsLogOf input a → IsLogOf input b → a ≡ b
one_log input a b p q =
    let t = one_transcript p.said q.said a.settings b.settings a.journal b.journal input p.plain q.plain p.whole q.whole in
    ap (λ (s : Settings). let l : Log = record { settings = s; journal = a.journal; transcript = a.transcript } in l) t.1
    ∙ ap (λ (j : List Entry). let l : Log = record { settings = b.settings; journal = j; transcript = a.transcript } in l) t.2
    ∙ ap (λ (n : ℕ). let l : Log = record { settings = b.settings; journal = b.journal; transcript = n } in l) (p.transcript ∙ ap length t.0 ∙ sym q.transcript)

-- ---- one fault

faultless_at : (g f : List (List ℕ)) (l : List ℕ) (more : List (List ℕ)) (k : FaultKind) → AreFaultless g (f ++ l ∷ more) → HasFault (g ++ f) l k → ⊥
faultless_at g [] l more k h has = h.0 k (subst (λ (x : List (List ℕ)). HasFault x l k) (append-nil g) has)
faultless_at g (x ∷ f) l more k h has = faultless_at (g ++ x ∷ []) f l more k h.1 (subst (λ (y : List (List ℕ)). HasFault y l k) (sym (append_assoc g (x ∷ []) f)) has)

-- of two fronts of lines the longer has the line behind the shorter
has_next : (f g : List (List ℕ)) (l : List ℕ) (more rest : List (List ℕ)) → f ++ l ∷ more ≡ g ++ rest → length f < length g → (others : List (List ℕ)) × (g ≡ f ++ l ∷ others)
has_next f [] l more rest e lt = absurd (omega arith)
has_next [] (x ∷ g) l more rest e lt = let head : x ≡ l = cc in (g, ap (λ (y : List ℕ). y ∷ g) head)
has_next (y ∷ f) (x ∷ g) l more rest e lt =
    let head : x ≡ y = cc in
    let tails : f ++ l ∷ more ≡ g ++ rest = cc in
    let next = has_next f g l more rest tails (omega arith) in
    (next.0, ap (λ (z : List ℕ). z ∷ g) head ∙ ap (λ (z : List (List ℕ)). y ∷ z) next.1)

rest_of : (front all : List (List ℕ)) (k : FaultKind) → Follows front all k → (rest : List (List ℕ)) × (all ≡ front ++ rest)
rest_of front all k (at_line line more is least) = (line ∷ more, is)
rest_of front all k (at_end is kind none) = ([], is ∙ sym (append-nil front))

no_later : (front other all rest : List (List ℕ)) (k : FaultKind) → Follows front all k → all ≡ other ++ rest → AreFaultless [] other → length front < length other → ⊥
no_later front other all rest k (at_line line more is least) e h lt =
    let next = has_next front other line more rest (sym is ∙ e) lt in
    faultless_at [] front line next.0 k (subst (AreFaultless []) next.1 h) least.has
no_later front other all rest k (at_end is kind none) e h lt = omega (arith, ap length (sym is ∙ e), length-append other rest)

same_front : (f g x y : List (List ℕ)) → f ++ x ≡ g ++ y → length f ≡ length g → f ≡ g
same_front f g x y e n = sym (take-append_seam f x) ∙ ap (take (length f)) e ∙ ap (λ (i : ℕ). take i (g ++ y)) n ∙ take-append_seam g y

same_kind : (a b : FaultKind) → fault_number a ≡ fault_number b → a ≡ b
same_kind Line Line e = refl
same_kind Line Order e = absurd (omega arith)
same_kind Line End e = absurd (omega arith)
same_kind Order Line e = absurd (omega arith)
same_kind Order Order e = refl
same_kind Order End e = absurd (omega arith)
same_kind End Line e = absurd (omega arith)
same_kind End Order e = absurd (omega arith)
same_kind End End e = refl

same_next : (f : List (List ℕ)) (l m : List ℕ) (xs ys : List (List ℕ)) → f ++ l ∷ xs ≡ f ++ m ∷ ys → l ≡ m
same_next [] l m xs ys e = cc
same_next (x ∷ f) l m xs ys e = let tails : f ++ l ∷ xs ≡ f ++ m ∷ ys = cc in same_next f l m xs ys tails

too_many : (f : List (List ℕ)) (l : List ℕ) (xs : List (List ℕ)) → f ≡ f ++ l ∷ xs → ⊥
too_many f l xs e = omega (arith, ap length e, length-append f (l ∷ xs))

one_kind : (front all : List (List ℕ)) (a b : FaultKind) → Follows front all a → Follows front all b → a ≡ b
one_kind front all a b (at_line l xs is least) (at_line m ys was other) =
    let same : m ≡ l = same_next front m l ys xs (sym was ∙ is) in
    let here = subst (λ (x : List ℕ). HasFault front x b) same other.has in
    let there = subst (λ (x : List ℕ). HasFault front x a) (sym same) least.has in
    let le = least.least b here in
    let ge = other.least a there in
    same_kind a b (omega (arith, le, ge))
one_kind front all a b (at_line l xs is least) (at_end was kind none) = absurd (too_many front l xs (sym was ∙ is))
one_kind front all a b (at_end is kind none) (at_line m ys was other) = absurd (too_many front m ys (sym is ∙ was))
one_kind front all a b (at_end is kind none) (at_end was end ended) = kind ∙ sym end

one_fault : (input : List ℕ) (f g : LogFault) → IsFirstFault input f → IsFirstFault input g → f ≡ g
one_fault input f g p q =
    let mine = rest_of p.front (lines input) f.kind p.follows in
    let other = rest_of q.front (lines input) g.kind q.follows in
    elim (cases_lt (length p.front) (length q.front)) [
      | inl lt ↦ absurd (no_later p.front q.front (lines input) other.0 f.kind p.follows other.1 q.faultless lt)
      | inr le ↦ elim (cases_lt (length q.front) (length p.front)) [
        | inl lt ↦ absurd (no_later q.front p.front (lines input) mine.0 g.kind q.follows mine.1 p.faultless lt)
        | inr ge ↦
            let count : length p.front ≡ length q.front = omega arith in
            let front = same_front p.front q.front mine.0 other.0 (sym mine.1 ∙ other.1) count in
            let kind = one_kind q.front (lines input) f.kind g.kind (subst (λ (x : List (List ℕ)). Follows x (lines input) f.kind) front p.follows) q.follows in
            let line : f.line ≡ g.line = omega (arith, p.line, q.line) in
            ap (λ (k : FaultKind). let x : LogFault = record { kind = k; line = f.line } in x) kind ∙ ap (λ (n : ℕ). let x : LogFault = record { kind = g.kind; line = n } in x) line
      ]
    ]

-- ---- no fault where a log is read

no_fault_by : (front all : List (List ℕ)) (k : FaultKind) → Follows front all k → AreFaultless [] all → HasEnd all → ⊥
no_fault_by front all k (at_line line more is least) h ended = faultless_at [] front line more k (subst (AreFaultless []) is h) least.has
no_fault_by front all k (at_end is kind none) h ended = none (subst HasEnd is ended)

ends_with : (xs ys : List (List ℕ)) → HasEnd ys → HasEnd (xs ++ ys)
ends_with [] ys h = h
ends_with (x ∷ xs) ys h = inr (ends_with xs ys h)

end_line : (k : ℕ) → k < 2 ^ 64 → HasEnd (row_text (rows.End k) ∷ [])
end_line k lt = inl (k, record { fits = record { text = lt; stands = tt }; text = refl })

plain_ended : (ls : List (List ℕ)) → list_all is_plain ls ≡ true → list_all is_ended ls ≡ true
plain_ended [] h = refl
plain_ended (l ∷ ls) h =
    let k = and_parts (is_plain l) (list_all is_plain ls) h in
    rw ((and_parts (is_ended l) (not (is_marked l)) k.0).0, plain_ended ls k.1) refl

has_end : (input : List ℕ) (log : Log) → IsLogOf input log → HasEnd (lines input)
has_end input log read =
    let fits = read.whole.is_log.fits in
    let text = log_text log.settings log.journal in
    let last = ends_with (map entry_text log.journal) (row_text (rows.End (length log.journal)) ∷ []) (end_line (length log.journal) fits.count) in
    let all : lines input ≡ lines read.said ++ log_lines log.settings log.journal =
    ap lines (read.whole.behind ∙ ap (λ (l : List ℕ). read.said ++ l) read.whole.is_log.text)
    ∙ whole_lines read.said text (plain_ended (lines read.said) read.plain)
    ∙ ap (λ (ls : List (List ℕ)). lines read.said ++ ls) (log_in_lines log.settings log.journal fits) in
    subst HasEnd (sym all) (ends_with (lines read.said) (log_lines log.settings log.journal) (inr last))

pub no_fault : (input : List ℕ) (log : Log) (f : LogFault) → IsLogOf input log → IsFirstFault input f → ⊥
no_fault input log f read p =
    let out = Ok (record { settings = log.settings; journal = log.journal; transcript = length read.said }) in
    no_fault_by p.front (lines input) f.kind p.follows (fault_told input out (is_judged input read.said log.settings log.journal read.plain read.whole)) (has_end input log read)

-- ---- one verdict

abbrev found_of : Log → CheckVerdict → Finding
found_of log verdict.Accepted = Accepted (length log.journal)
found_of log (verdict.Unlawful n) = Unlawful n
found_of log (verdict.Differs n) = Differs n

-- a log is read, and its journal and what stands before it have this verdict
record Reads (p : Program) (input : List ℕ) (found : Finding) : Type 0 where
  log : Log
  read : IsLogOf input log
  verdict_is : CheckVerdict
  checked : Checked line_voice (opened p log.settings) log.journal (take log.transcript input) verdict_is
  found_is : found ≡ found_of log verdict_is

of_record : (p : Program) (input : List ℕ) (k : ℕ) → IsRecord p input k → Reads p input (Accepted k)
of_record p input k r =
    let o = opened p r.settings in
    let log : Log = record { settings = r.settings; journal = r.journal; transcript = length (said o r.journal) } in
    let front : take (length (said o r.journal)) input ≡ said o r.journal = ap (take (length (said o r.journal))) r.text.behind ∙ take-append_seam (said o r.journal) r.text.log in
    record {
      log = log;
      read = record { said = said o r.journal; plain = r.plain; whole = r.text; transcript = refl };
      verdict_is = verdict.Accepted;
      checked = (r.lawful, front ∙ sym (speech_said o r.journal));
      found_is = ap (λ (n : ℕ). Accepted n) r.count_is;
    }

of_unlawful : (p : Program) (input : List ℕ) (n : ℕ) → HasUnlawful p input n → Reads p input (Unlawful n)
of_unlawful p input n h = record { log = h.log; read = h.read; verdict_is = verdict.Unlawful n; checked = h.unlawful; found_is = refl }

of_difference : (p : Program) (input : List ℕ) (n : ℕ) → HasDifference p input n → Reads p input (Differs n)
of_difference p input n h = record {
  log = h.log;
  read = h.read;
  verdict_is = verdict.Differs n;
  checked = (h.lawful, subst (λ (l : List ℕ). IsFirstPlace (take h.log.transcript input) l n) (sym (speech_said (opened p h.log.settings) h.log.journal)) h.differs);
  found_is = refl;
}

one_read : (p : Program) (input : List ℕ) (a b : Finding) → Reads p input a → Reads p input b → a ≡ b
one_read p input a b r q =
    let log = one_log input r.log q.log r.read q.read in
    let checked = subst (λ (l : Log). Checked line_voice (opened p l.settings) l.journal (take l.transcript input) r.verdict_is) log r.checked in
    let same = one_verdict line_voice (opened p q.log.settings) q.log.journal (take q.log.transcript input) r.verdict_is q.verdict_is checked q.checked in
    r.found_is ∙ ap (λ (l : Log). found_of l r.verdict_is) log ∙ ap (found_of q.log) same ∙ sym q.found_is

pub one_finding : (p : Program) (input : List ℕ) (a b : Finding) → Finds p input a → Finds p input b → a ≡ b
one_finding p input Long Long x y = refl
one_finding p input Long (Accepted m) x y = absurd (omega (arith, x, y.0))
one_finding p input Long (Fault g) x y = absurd (omega (arith, x, y.0))
one_finding p input Long (Unlawful m) x y = absurd (omega (arith, x, y.0))
one_finding p input Long (Differs m) x y = absurd (omega (arith, x, y.0))
one_finding p input (Accepted n) Long x y = absurd (omega (arith, y, x.0))
one_finding p input (Fault f) Long x y = absurd (omega (arith, y, x.0))
one_finding p input (Unlawful n) Long x y = absurd (omega (arith, y, x.0))
one_finding p input (Differs n) Long x y = absurd (omega (arith, y, x.0))
one_finding p input (Fault f) (Fault g) x y = ap (λ (z : LogFault). Fault z) (one_fault input f g x.1 y.1)
one_finding p input (Fault f) (Accepted m) x y = let r = of_record p input m y.1 in absurd (no_fault input r.log f r.read x.1)
one_finding p input (Fault f) (Unlawful m) x y = absurd (no_fault input y.1.log f y.1.read x.1)
one_finding p input (Fault f) (Differs m) x y = absurd (no_fault input y.1.log f y.1.read x.1)
one_finding p input (Accepted n) (Fault g) x y = let r = of_record p input n x.1 in absurd (no_fault input r.log g r.read y.1)
one_finding p input (Unlawful n) (Fault g) x y = absurd (no_fault input x.1.log g x.1.read y.1)
one_finding p input (Differs n) (Fault g) x y = absurd (no_fault input x.1.log g x.1.read y.1)
one_finding p input (Accepted n) (Accepted m) x y = one_read p input (Accepted n) (Accepted m) (of_record p input n x.1) (of_record p input m y.1)
one_finding p input (Accepted n) (Unlawful m) x y = one_read p input (Accepted n) (Unlawful m) (of_record p input n x.1) (of_unlawful p input m y.1)
one_finding p input (Accepted n) (Differs m) x y = one_read p input (Accepted n) (Differs m) (of_record p input n x.1) (of_difference p input m y.1)
one_finding p input (Unlawful n) (Accepted m) x y = one_read p input (Unlawful n) (Accepted m) (of_unlawful p input n x.1) (of_record p input m y.1)
one_finding p input (Unlawful n) (Unlawful m) x y = one_read p input (Unlawful n) (Unlawful m) (of_unlawful p input n x.1) (of_unlawful p input m y.1)
one_finding p input (Unlawful n) (Differs m) x y = one_read p input (Unlawful n) (Differs m) (of_unlawful p input n x.1) (of_difference p input m y.1)
one_finding p input (Differs n) (Accepted m) x y = one_read p input (Differs n) (Accepted m) (of_difference p input n x.1) (of_record p input m y.1)
one_finding p input (Differs n) (Unlawful m) x y = one_read p input (Differs n) (Unlawful m) (of_difference p input n x.1) (of_unlawful p input m y.1)
one_finding p input (Differs n) (Differs m) x y = one_read p input (Differs n) (Differs m) (of_difference p input n x.1) (of_difference p input m y.1)
