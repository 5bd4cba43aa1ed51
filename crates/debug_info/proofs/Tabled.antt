-- The table that moves: what is found in it, one declaration less, and one more.
use Rattle.debug_info.proofs.Words.{◌≡◌, ◌<◌, ◌≤◌, ◌+◌, ◌++◌, ℕ, zero, suc, Bool, true, false, List, [], ◌∷◌, length, reverse, Option, None, Some, Result, Ok, Err, cond, refl, arith, sym, ◌∙◌, ap, subst, eqb-true, IfOk, IfSome, ◌==◌}
use Rattle.debug_info.proofs.Words.{if◌then◌else◌, BTreeMap, get, unsigned_ties, nat_cmp, drop-length, reverse-append, IsBehind, leb_at, leb_length, uleb_at, ◌>>=◌, Read, abbreviation_of, declaration_at, where_code, AreKept}
use Rattle.debug_info.proofs.Words.{AreListed, IsBefore, LeadTo, code_in, declaration_in, declared, end_of, is_code, Declaration, InfoFault}
use Rattle.std.specs.BTreeMap as tree
use Rattle.debug_info.specs.declared.fault.InfoFault.TheVariants as fault
use Rattle.debug_info.specs.declared.tables.Listed.{Listed}
use Rattle.debug_info.proofs.Behind.{Declares, declaration_ends}

-- what the table at a place answers of a code, by where it is found
abbrev pub looked_up : List ℕ → InfoFault → Option ℕ → Result Declaration InfoFault
looked_up abbrevs end None = Err end
looked_up abbrevs end (Some place) = declaration_in (declaration_at abbrevs place)

-- of one place there is one code and one next place
abbrev code_or : Option (ℕ × ℕ) → ℕ
code_or None = 0
code_or (Some p) = p.0

abbrev next_or : Option (ℕ × ℕ) → ℕ
next_or None = 0
next_or (Some p) = p.1

pub same_code : (code next other behind : ℕ) → ◌≡◌ {A = Option (ℕ × ℕ)} (Some (code, next)) (Some (other, behind)) → code ≡ other
same_code code next other behind e = ap code_or e

pub same_next : (code next other behind : ℕ) → ◌≡◌ {A = Option (ℕ × ℕ)} (Some (code, next)) (Some (other, behind)) → next ≡ behind
same_next code next other behind e = ap next_or e

pub not_none : (code next : ℕ) → ◌≡◌ {A = Option (ℕ × ℕ)} (Some (code, next)) None → ⊥
not_none code next e = absurd (cc)

behind_by : (abbrevs : List ℕ) (at code next : ℕ) (r : Read (Option (ℕ × Declaration))) → IfOk r (Declares abbrevs at) → code_in r ≡ Some (code, next) → IsBehind abbrevs at next
behind_by abbrevs at code next (Ok (None, n)) h e = absurd (cc)
behind_by abbrevs at code next (Ok (Some (c, d), n)) h e = subst (λ (k : ℕ). IsBehind abbrevs at k) (same_next c n code next e) h.behind
behind_by abbrevs at code next (Err f) h e = absurd (cc)

pub before_behind : (abbrevs : List ℕ) (at next : ℕ) → IsBefore abbrevs at next → IsBehind abbrevs at next
before_behind abbrevs at next b = behind_by abbrevs at b.code next (declaration_at abbrevs at) (declaration_ends abbrevs at) b.is

-- what is found from a place on
abbrev end_fault : Option InfoFault → Result Declaration InfoFault
end_fault None = Err fault.Short
end_fault (Some e) = Err e

at_end : (r : Read (Option (ℕ × Declaration))) (end : InfoFault) (code : ℕ) (rest : ℕ → Result Declaration InfoFault) → end_of r ≡ Some end → (r >>= where_code code rest) ≡ Err end
at_end (Ok (None, next)) end code rest e = ap end_fault e
at_end (Ok (Some d, next)) end code rest e = absurd (subst (λ (o : Option InfoFault). IfSome o (λ _. ⊥)) e tt)
at_end (Err f) end code rest e = ap end_fault e

one_found : (b : Bool) (abbrevs : List ℕ) (end : InfoFault) (at : ℕ) (d : Declaration) (rest : Result Declaration InfoFault) (o : Option ℕ) → declaration_in (declaration_at abbrevs at) ≡ Ok d → rest ≡ looked_up abbrevs end o
    → (if b then Ok d else rest) ≡ looked_up abbrevs end (if b then Some at else o)
one_found true abbrevs end at d rest o is e = sym is
one_found false abbrevs end at d rest o is e = e

here_found : (abbrevs : List ℕ) (end : InfoFault) (at next other code : ℕ) (rest : ℕ → Result Declaration InfoFault) (o : Option ℕ) (r : Read (Option (ℕ × Declaration))) → declaration_at abbrevs at ≡ r → code_in r ≡ Some (other, next)
    → rest next ≡ looked_up abbrevs end o → (r >>= where_code code rest) ≡ looked_up abbrevs end (if is_code (code_in r) code then Some at else o)
here_found abbrevs end at next other code rest o (Ok (None, n)) is e h = absurd (cc)
here_found abbrevs end at next other code rest o (Ok (Some (c, d), n)) is e h =
    one_found (c == code) abbrevs end at d (rest n) o (ap declaration_in is) (ap rest (same_next c n other next e) ∙ h)
here_found abbrevs end at next other code rest o (Err f) is e h = absurd (cc)

pub found_by : (m : ℕ) (abbrevs : List ℕ) (end : InfoFault) (at code : ℕ) (ls : List Listed) → at ≤ length abbrevs → length abbrevs < at + m → AreListed abbrevs end at ls
    → abbreviation_of m abbrevs code at ≡ looked_up abbrevs end (declared abbrevs ls code)
found_by zero abbrevs end at code ls h k listed = absurd (omega arith)
found_by (suc m) abbrevs end at code [] h k listed = at_end (declaration_at abbrevs at) end code (abbreviation_of m abbrevs code) listed
found_by (suc m) abbrevs end at code (l ∷ ls) h k listed =
    let next = listed.0 in
    let first = listed.1.0 in
    let b = before_behind abbrevs at next first.before in
    let behind = b.behind in
    here_found abbrevs end at next first.before.code code (abbreviation_of m abbrevs code) (declared abbrevs ls code) (declaration_at abbrevs at) refl first.before.is
    (found_by m abbrevs end next code ls b.within (omega arith) listed.1.1)
    ∙ ap (λ (n : ℕ). looked_up abbrevs end (if is_code (code_in (declaration_at abbrevs n)) code then Some n else declared abbrevs ls code)) (sym first.place)

pub found_in : (abbrevs : List ℕ) (end : InfoFault) (at code : ℕ) (ls : List Listed) (first : ℕ → Option ℕ) → AreKept abbrevs end at ls first
    → abbreviation_of (length abbrevs + 1) abbrevs code at ≡ looked_up abbrevs end (first code)
found_in abbrevs end at code ls first h = found_by (length abbrevs + 1) abbrevs end at code ls h.within (omega arith) h.all ∙ ap (looked_up abbrevs end) (sym (h.found code))

-- nothing stands at the section's end
pub nothing_last : (abbrevs : List ℕ) → end_of (declaration_at abbrevs (length abbrevs)) ≡ Some fault.Short
unfolding declaration_at uleb_at leb_at leb_length
nothing_last abbrevs = rw (drop-length abbrevs) refl

-- the first declaration less
less_by : (b : Bool) (abbrevs : List ℕ) (code other : ℕ) (l : Listed) (ls : List Listed) (before after : Option ℕ) → (code == other) ≡ b → l.hidden ≡ declared abbrevs ls code
    → before ≡ (if b then Some l.at else declared abbrevs ls other) → after ≡ (if b then l.hidden else before) → after ≡ declared abbrevs ls other
less_by true abbrevs code other l ls before after e hides was is = is ∙ hides ∙ ap (declared abbrevs ls) (eqb-true _ _ e)
less_by false abbrevs code other l ls before after e hides was is = is ∙ was

pub kept_less : (abbrevs : List ℕ) (end : InfoFault) (at code next : ℕ) (l : Listed) (ls : List Listed) (first less : ℕ → Option ℕ) → AreKept abbrevs end at (l ∷ ls) first → code_in (declaration_at abbrevs l.at) ≡ Some (code, next)
    → ((other : ℕ) → less other ≡ (if code == other then l.hidden else first other)) → AreKept abbrevs end next ls less
kept_less abbrevs end at code next l ls first less h read is =
    let f = h.all.1.0 in
    let here = sym f.before.is ∙ ap (λ (n : ℕ). code_in (declaration_at abbrevs n)) (sym f.place) ∙ read in
    let code_is : f.before.code ≡ code = same_code _ _ _ _ here in
    let next_is : h.all.0 ≡ next = same_next _ _ _ _ here in
    record {
      all = subst (λ (n : ℕ). AreListed abbrevs end n ls) next_is h.all.1.1;
      found = λ other. less_by (code == other) abbrevs code other l ls (first other) (less other) refl (f.hides ∙ ap (declared abbrevs ls) code_is)
          (h.found other ∙ ap (λ (o : Option (ℕ × ℕ)). if is_code o other then Some l.at else declared abbrevs ls other) read) (is other);
      within = subst (λ (n : ℕ). n ≤ length abbrevs) next_is (before_behind abbrevs at h.all.0 f.before).within;
    }

-- one more in front
more_by : (b : Bool) (at : ℕ) (before after : Option ℕ) (o : Option ℕ) → before ≡ o → after ≡ (if b then Some at else before) → after ≡ (if b then Some at else o)
more_by true at before after o was is = is
more_by false at before after o was is = is ∙ was

pub kept_more : (abbrevs : List ℕ) (end : InfoFault) (at place code : ℕ) (ls : List Listed) (first more : ℕ → Option ℕ) → AreKept abbrevs end at ls first → code_in (declaration_at abbrevs place) ≡ Some (code, at)
    → ((other : ℕ) → more other ≡ (if code == other then Some place else first other)) → AreKept abbrevs end place (record { at = place; hidden = first code } ∷ ls) more
kept_more abbrevs end at place code ls first more h read is =
    let b = before_behind abbrevs place at (record { code = code; is = read }) in
    let behind = b.behind in
    let inside = b.within in
    record {
      all = (at, (record { place = refl; before = record { code = code; is = read }; hides = h.found code }, h.all));
      found = λ other. more_by (code == other) place (first other) (more other) (declared abbrevs ls other) (h.found other) (is other)
          ∙ ap (λ (o : Option (ℕ × ℕ)). if is_code o other then Some place else declared abbrevs ls other) (sym read);
      within = omega arith;
    }

-- the last element of a list is the first one of its reverse
pub last_first : {A : Type 0} (xs : List A) (x : A) → reverse (xs ++ x ∷ []) ≡ x ∷ reverse xs
last_first xs x = reverse-append xs (x ∷ [])

-- what a map has at each code after one was set
pub set_some : (old new : BTreeMap ℕ ℕ) (code : ℕ) (o : Option ℕ) (place : ℕ) → o ≡ Some place
    → tree.Updates nat_cmp old new code (Some place) → (other : ℕ) → get nat_cmp new other ≡ (if code == other then o else get nat_cmp old other)
set_some old new code o place is updates other =
    updates.0 other ∙ ap (λ (b : Bool). cond b (Some place) (get nat_cmp old other)) (sym (unsigned_ties code other)) ∙ ap (λ (x : Option ℕ). if code == other then x else get nat_cmp old other) (sym is)

pub set_none : (old new : BTreeMap ℕ ℕ) (code : ℕ) (o : Option ℕ) → o ≡ None → tree.Updates nat_cmp old new code None → (other : ℕ) → get nat_cmp new other ≡ (if code == other then o else get nat_cmp old other)
set_none old new code o is updates other =
    updates.0 other ∙ ap (λ (b : Bool). cond b None (get nat_cmp old other)) (sym (unsigned_ties code other)) ∙ ap (λ (x : Option ℕ). if code == other then x else get nat_cmp old other) (sym is)

-- the same by what is kept, the last one first
pub none_kept : (abbrevs : List ℕ) (end : InfoFault) (at : ℕ) (items : List Listed) (places : BTreeMap ℕ ℕ) → items ≡ [] → tree.IsEmpty places → at ≤ length abbrevs → end_of (declaration_at abbrevs at) ≡ Some end
    → AreKept abbrevs end at (reverse items) (get nat_cmp places)
none_kept abbrevs end at items places none empty h e =
    subst (λ (ls : List Listed). AreKept abbrevs end at (reverse ls) (get nat_cmp places)) (sym none)
    (record { all = e; found = λ code. rw empty refl; within = h })

popped : (abbrevs : List ℕ) (end : InfoFault) (at : ℕ) (l : Listed) (items rest : List Listed) (first : ℕ → Option ℕ) → AreKept abbrevs end at (reverse items) first → items ≡ rest ++ l ∷ [] → AreKept abbrevs end at (l ∷ reverse rest) first
popped abbrevs end at l items rest first h pop = subst (λ (ls : List Listed). AreKept abbrevs end at ls first) (ap reverse pop ∙ last_first rest l) h

pub less_kept : (abbrevs : List ℕ) (end : InfoFault) (at code next : ℕ) (l : Listed) (items rest : List Listed) (old new : BTreeMap ℕ ℕ) → AreKept abbrevs end at (reverse items) (get nat_cmp old)
    → items ≡ rest ++ l ∷ [] → code_in (declaration_at abbrevs l.at) ≡ Some (code, next) → ((other : ℕ) → get nat_cmp new other ≡ (if code == other then l.hidden else get nat_cmp old other))
    → AreKept abbrevs end next (reverse rest) (get nat_cmp new)
less_kept abbrevs end at code next l items rest old new h pop read is =
    kept_less abbrevs end at code next l (reverse rest) (get nat_cmp old) (get nat_cmp new) (popped abbrevs end at l items rest (get nat_cmp old) h pop) read is

pub none_popped : (abbrevs : List ℕ) (end : InfoFault) (at : ℕ) (l : Listed) (items rest : List Listed) (first : ℕ → Option ℕ) → AreKept abbrevs end at (reverse items) first → items ≡ rest ++ l ∷ []
    → code_in (declaration_at abbrevs l.at) ≡ None → ⊥
none_popped abbrevs end at l items rest first h pop read =
    let f = (popped abbrevs end at l items rest first h pop).all.1.0 in
    not_none _ _ (sym f.before.is ∙ ap (λ (n : ℕ). code_in (declaration_at abbrevs n)) (sym f.place) ∙ read)

pub more_kept : (abbrevs : List ℕ) (end : InfoFault) (at place code : ℕ) (hidden : Option ℕ) (items more : List Listed) (old new : BTreeMap ℕ ℕ) → AreKept abbrevs end at (reverse items) (get nat_cmp old)
    → code_in (declaration_at abbrevs place) ≡ Some (code, at) → hidden ≡ get nat_cmp old code → tree.Updates nat_cmp old new code (Some place) → more ≡ items ++ record { at = place; hidden = hidden } ∷ []
    → AreKept abbrevs end place (reverse more) (get nat_cmp new)
more_kept abbrevs end at place code hidden items more old new h read hides updates push =
    let kept = kept_more abbrevs end at place code (reverse items) (get nat_cmp old) (get nat_cmp new) h read (set_some old new code _ place refl updates) in
    let here : reverse more ≡ record { at = place; hidden = get nat_cmp old code } ∷ reverse items =
    ap reverse push ∙ last_first items (record { at = place; hidden = hidden }) ∙ ap (λ (o : Option ℕ). record { at = place; hidden = o } ∷ reverse items) hides in
    subst (λ (ls : List Listed). AreKept abbrevs end place ls (get nat_cmp new)) (sym here) kept

-- from a place up to another, one declaration more
pub lead_more : (abbrevs : List ℕ) (at place next : ℕ) (items more : List ℕ) → LeadTo abbrevs at place (reverse items) → IsBefore abbrevs place next → more ≡ items ++ place ∷ [] → LeadTo abbrevs at next (reverse more)
lead_more abbrevs at place next items more h before push =
    subst (λ (ls : List ℕ). LeadTo abbrevs at next ls) (sym (ap reverse push ∙ last_first items place)) (before, h)

-- and one less
pub lead_less : (abbrevs : List ℕ) (at to place : ℕ) (items rest : List ℕ) → items ≡ rest ++ place ∷ [] → LeadTo abbrevs at to (reverse items) → IsBefore abbrevs place to × LeadTo abbrevs at place (reverse rest)
lead_less abbrevs at to place items rest pop h = subst (λ (ls : List ℕ). LeadTo abbrevs at to ls) (ap reverse pop ∙ last_first rest place) h

pub lead_none : (abbrevs : List ℕ) (at to : ℕ) (items : List ℕ) → items ≡ [] → LeadTo abbrevs at to (reverse items) → at ≡ to
lead_none abbrevs at to items none h = subst (λ (ls : List ℕ). LeadTo abbrevs at to (reverse ls)) none h
