-- A log that is put line by line, and a session over a file that is handed back, with its log behind its lines where it is wanted.
use Rattle.std.proofs.Common.{◌≡◌, ◌<◌, ℕ, ◌+◌, ◌^◌, Bool, true, false, List, [], ◌∷◌, ◌++◌, length, take, drop, refl, sym, ap, ◌∙◌, append_assoc, arith, subst}
use Rattle.std.specs.Prelude.{Option, Some, None, IfSome, Ok, Err, ◌&&◌}
use Rattle.std.specs.List.{flat_map, list_all}
use mathlib.Core.Logic.{inl, inr}
use mathlib.Core.List.{append-nil}
use Rattle.std.proofs.lemmas.List.{take-append-drop}
use Rattle.dbg_traits.specs.Settings.{AreSettings}
use Rattle.dbg_traits.specs.Told.{Told, more}
use Rattle.dbg_traits.specs.Causes.{Rose}
use Rattle.dbg_traits.specs.declared.settings.Settings.{Settings}
use Rattle.dbg_traits.specs.declared.text.NoMemory.{NoMemory}
use Rattle.mi_values.specs.Record.{LineTree}
use Rattle.mi_values.specs.Records.{lines_bytes, AreLines, AreRecords}
use Rattle.mi_reports.specs.Said.{said_lines}
use Rattle.dbg_model.specs.declared.entry.Entry.{Entry}
use Rattle.dbg_model.proofs.Options.{both_true}
use Rattle.dbg_model.specs.State.{State}
use Rattle.engine_parts.specs.declared.ending.Closed.{Closed}
use Rattle.session_log.specs.Rows.{AddsLine, FitsRow, has_bytes, row_text}
use Rattle.session_log.specs.LogText.{AreEntries, FitsLog, Transcript, entry_text, log_text}
use Rattle.session_log.specs.declared.row.LogRow.TheVariants as rows
use Rattle.session_parts.specs.Headline.{Headline, Why}
use Rattle.session_parts.specs.Logged.{Logs, PutsLog, Tells}
use Rattle.session_parts.specs.Over.{IsHanded, is_logged}
use Rattle.session_parts.specs.Puts.{PutsAll, with_text}
use Rattle.session_parts.specs.Ties.{IsCut, IsTied, Taken, Written}
use Rattle.session_parts.specs.Stage.{Stage}
use Rattle.session_parts.specs.declared.file.Source.TheVariants.{File}
use Rattle.session_parts.specs.declared.status.Status.{Status}
use Rattle.session_parts.specs.declared.status.Status.TheVariants as status
use Rattle.journal_laws.proofs.Asked.{entries_stand}
use Rattle.session_parts.proofs.Heading.{heading_file, named, whys, with_put}
use Rattle.session_parts.proofs.Putting.{more_more}

-- ---- line by line

nothing_more : (o : Option (List ℕ)) → o ≡ more o []
nothing_more None = refl
nothing_more (Some w) = ap Some (sym (append-nil w))

pub with_nothing : (t : Told) → t ≡ with_text t []
with_nothing t = ap (λ o. record t { written = o }) (nothing_more t.written)

pub with_both : (t u v : Told) (first next : List ℕ) → u ≡ with_text t first → v ≡ with_text u next → v ≡ with_text t (first ++ next)
with_both t u v first next before is = is ∙ (ap (λ w. with_text w next) before ∙ ap (λ o. record t { written = o }) (more_more t.written first next))

-- a front of a text was put, and what is left of it begins with this line
pub record IsAt (whole front rest : List ℕ) (t u : Told) : Type 0 where
  pub told : u ≡ with_text t front
  pub is : front ++ rest ≡ whole

pub at_start : (whole : List ℕ) (t : Told) → IsAt whole [] whole t t
at_start whole t = record { told = with_nothing t; is = refl }

-- the line was put
pub line_put : (whole front line rest : List ℕ) (t u v : Told) → IsAt whole front (line ++ rest) t u → PutsAll true line u v → IsAt whole (front ++ line) rest t v
line_put whole front line rest t u v a puts = record { told = with_both t u v front line a.told puts; is = append_assoc front line rest ∙ a.is }

-- a front of the line was put
pub line_cut : (whole front line rest : List ℕ) (t u v : Told) → IsAt whole front (line ++ rest) t u → PutsAll false line u v
    → (all : List ℕ) × IsCut all whole × ((faults : ℕ) × Rose t.put_faults faults × (v ≡ record (with_text t all) { put_faults = faults }))
line_cut whole front line rest t u v a puts =
    let n = puts.0 in
    let same : u.put_faults ≡ t.put_faults = ap (λ (x : Told). x.put_faults) a.told in
    let text : (front ++ take n line) ++ (drop n line ++ rest) ≡ whole =
    append_assoc front (take n line) (drop n line ++ rest)
    ∙ (ap (λ x. front ++ x) (sym (append_assoc (take n line) (drop n line) rest) ∙ ap (λ x. x ++ rest) (take-append-drop n line)) ∙ a.is) in
    let told : with_text u (take n line) ≡ with_text t (front ++ take n line) = with_both t u (with_text u (take n line)) front (take n line) a.told refl in (
      front ++ take n line,
      (drop n line ++ rest, text),
      (puts.1, subst (λ k. Rose k puts.1) same puts.2, puts.3 ∙ ap (λ (x : Told). record x { put_faults = puts.1 }) told),
    )

-- what is put so far of the log, with the entries that are left: what was put may stand in a log
pub record LogAt (s : Settings) (j rest : List Entry) (count : ℕ) (t u : Told) : Type 0 where
  pub front : List ℕ
  pub at : IsAt (log_text s j) front (flat_map entry_text rest ++ row_text (rows.End (length j))) t u
  pub counts : count + length rest ≡ length j
  pub stand : list_all has_bytes rest ≡ true
  pub head : FitsRow (rows.Head s)
  pub fits : AreEntries rest → AreEntries j

pub log_begun : (s : Settings) (j : List Entry) (line : List ℕ) (t u : Told) → AreSettings s → list_all has_bytes j ≡ true → AddsLine (rows.Head s) [] line → PutsAll true line t u → LogAt s j j 0 t u
log_begun s j line t u ranges stand adds puts =
    let rest = flat_map entry_text j ++ row_text (rows.End (length j)) in
    let P : List ℕ → Type 0 = λ x. PutsAll true x t u in
    record {
      front = row_text (rows.Head s);
      at = line_put (log_text s j) [] (row_text (rows.Head s)) rest t t u (at_start (log_text s j) t) (subst P adds.behind puts);
      counts = omega arith;
      stand = stand;
      head = (adds.spelled ranges).fits;
      fits = λ all. all;
    }

pub log_next : (s : Settings) (j rest : List Entry) (e : Entry) (es : List Entry) (count : ℕ) (line : List ℕ) (t u v : Told) → LogAt s j rest count t u → rest ≡ e ∷ es → AddsLine (rows.Entry e) [] line → PutsAll true line u v
    → LogAt s j es (count + 1) t v
log_next s j rest e es count line t u v l is adds puts =
    let P : List ℕ → Type 0 = λ x. PutsAll true x u v in
    let Q : List Entry → Type 0 = λ x. LogAt s j x count t u in
    let m = subst Q is l in
    let more = flat_map entry_text es ++ row_text (rows.End (length j)) in
    let R : List ℕ → Type 0 = λ x. IsAt (log_text s j) m.front x t u in
    let at = subst R (append_assoc (entry_text e) (flat_map entry_text es) (row_text (rows.End (length j)))) m.at in
    let stand = both_true (has_bytes e) (list_all has_bytes es) m.stand in
    let counts = m.counts in
    record {
      front = m.front ++ entry_text e;
      at = line_put (log_text s j) m.front (entry_text e) more t u v at (subst P adds.behind puts);
      counts = omega (arith, counts);
      stand = stand.1;
      head = m.head;
      fits = λ all. m.fits ((adds.spelled stand.0).fits, all);
    }

log_ends : (s : Settings) (j : List Entry) (b : Bool) (t u v : Told) (front : List ℕ) → length j < 2 ^ 64 → IsAt (log_text s j) front (row_text (rows.End (length j)) ++ []) t u → FitsRow (rows.Head s) → AreEntries j
    → PutsAll b (row_text (rows.End (length j))) u v → PutsLog (Ok b) s j t v
log_ends s j true t u v front few at head fits puts =
    let all = line_put (log_text s j) front (row_text (rows.End (length j))) [] t u v at puts in
    let same : front ++ row_text (rows.End (length j)) ≡ log_text s j = sym (append-nil (front ++ row_text (rows.End (length j)))) ∙ all.is in
    (record { head = head; entries = fits; count = few }, all.told ∙ ap (with_text t) same)
log_ends s j false t u v front few at head fits puts = line_cut (log_text s j) front (row_text (rows.End (length j))) [] t u v at puts

pub log_over : (s : Settings) (j rest : List Entry) (count : ℕ) (line : List ℕ) (b : Bool) (t u v : Told) → length j < 2 ^ 64 → LogAt s j rest count t u
    → rest ≡ [] → AddsLine (rows.End count) [] line → PutsAll b line u v → PutsLog (Ok b) s j t v
log_over s j rest count line b t u v few l is adds puts =
    let Q : List Entry → Type 0 = λ x. LogAt s j x count t u in
    let m = subst Q is l in
    let counts = m.counts in
    let same : count ≡ length j = omega (arith, counts) in
    let end = row_text (rows.End (length j)) in
    let text : line ≡ end = adds.behind ∙ ap (λ k. row_text (rows.End k)) same in
    let R : List ℕ → Type 0 = λ x. IsAt (log_text s j) m.front x t u in
    let at = subst R (sym (append-nil end)) m.at in
    let P : List ℕ → Type 0 = λ x. PutsAll b x u v in
    log_ends s j b t u v m.front few at m.head (m.fits tt) (subst P text puts)

pub log_short : (s : Settings) (j rest : List Entry) (count : ℕ) (t u : Told) (e : NoMemory) → LogAt s j rest count t u → PutsLog (Err e) s j t u
log_short s j rest count t u e l = (l.front, (flat_map entry_text rest ++ row_text (rows.End (length j)), l.at.is), l.at.told)

pub log_cut : (s : Settings) (j rest : List Entry) (e : Entry) (es : List Entry) (count : ℕ) (line : List ℕ) (t u v : Told) → LogAt s j rest count t u → rest ≡ e ∷ es → AddsLine (rows.Entry e) [] line → PutsAll false line u v
    → PutsLog (Ok false) s j t v
log_cut s j rest e es count line t u v l is adds puts =
    let P : List ℕ → Type 0 = λ x. PutsAll false x u v in
    let Q : List Entry → Type 0 = λ x. LogAt s j x count t u in
    let m = subst Q is l in
    let R : List ℕ → Type 0 = λ x. IsAt (log_text s j) m.front x t u in
    let at = subst R (append_assoc (entry_text e) (flat_map entry_text es) (row_text (rows.End (length j)))) m.at in
    line_cut (log_text s j) m.front (entry_text e) (flat_map entry_text es ++ row_text (rows.End (length j))) t u v at (subst P adds.behind puts)

pub log_unbegun : (s : Settings) (j : List Entry) (t u : Told) (e : NoMemory) → u ≡ t → PutsLog (Err e) s j t u
log_unbegun s j t u e same = ([], (log_text s j, refl), same ∙ with_nothing t)

pub log_head_cut : (s : Settings) (j : List Entry) (line : List ℕ) (t u : Told) → AddsLine (rows.Head s) [] line → PutsAll false line t u → PutsLog (Ok false) s j t u
log_head_cut s j line t u adds puts =
    let P : List ℕ → Type 0 = λ x. PutsAll false x t u in
    line_cut (log_text s j) [] (row_text (rows.Head s)) (flat_map entry_text j ++ row_text (rows.End (length j))) t t u (at_start (log_text s j) t) (subst P adds.behind puts)

-- ---- handed back

-- more was written behind what there was
behind : (o : Option (List ℕ)) (text : List ℕ) (P Q : List ℕ → Type 0) → ((w : List ℕ) → P w → Q (w ++ text)) → IfSome o P → IfSome (more o text) Q
behind None text P Q each h = tt
behind (Some w) text P Q each h = each w h

same_for : (o : Option (List ℕ)) (P Q : List ℕ → Type 0) → ((w : List ℕ) → P w → Q w) → IfSome o P → IfSome o Q
same_for None P Q each h = tt
same_for (Some w) P Q each h = each w h

-- the lines of a session whose log is put are whole
records_of : (s : Status) (w : List ℕ) (trees : List LineTree) → is_logged s ≡ true → Written (Some s) w trees → AreRecords w trees
records_of status.Done w trees is h = h
records_of status.Budget w trees is h = h
records_of status.History w trees is h = h
records_of status.ReadFault w trees is h = h
records_of status.Words w trees is h = let f : false ≡ true = is in absurd cc
records_of (status.File g) w trees is h = let f : false ≡ true = is in absurd cc
records_of status.WriteFault w trees is h = let f : false ≡ true = is in absurd cc
records_of status.NoMemory w trees is h = let f : false ≡ true = is in absurd cc
records_of status.Rejected w trees is h = let f : false ≡ true = is in absurd cc

transcript : (w : List ℕ) (trees : List LineTree) (s : Settings) (j : List Entry) → AreRecords w trees → FitsLog s j → AreLines trees × Transcript (lines_bytes trees) s j (w ++ log_text s j)
transcript w trees s j h fits = (h.lines, record { log = log_text s j; is_log = record { fits = fits; text = refl }; behind = ap (λ x. x ++ log_text s j) h.text })

whole : (t : Status) (w : List ℕ) (trees : List LineTree) (s : Settings) (j : List Entry) → is_logged t ≡ true → AreRecords w trees → FitsLog s j → Logs t (w ++ log_text s j) trees s j
whole status.Done w trees s j is h fits = transcript w trees s j h fits
whole status.Budget w trees s j is h fits = transcript w trees s j h fits
whole status.History w trees s j is h fits = transcript w trees s j h fits
whole status.ReadFault w trees s j is h fits = transcript w trees s j h fits
whole status.Words w trees s j is h fits = transcript w trees s j h fits
whole (status.File g) w trees s j is h fits = transcript w trees s j h fits
whole status.Rejected w trees s j is h fits = transcript w trees s j h fits
whole status.WriteFault w trees s j is h fits = let f : false ≡ true = is in absurd cc
whole status.NoMemory w trees s j is h fits = let f : false ≡ true = is in absurd cc

cut : (w front : List ℕ) (trees : List LineTree) (s : Settings) (j : List Entry) → AreRecords w trees → IsCut front (log_text s j) → Logs status.WriteFault (w ++ front) trees s j
cut w front trees s j h c =
    let text : (w ++ front) ++ c.0 ≡ lines_bytes trees ++ log_text s j =
    append_assoc w front c.0 ∙ (ap (λ x. w ++ x) c.1 ∙ ap (λ x. x ++ log_text s j) h.text) in
    (h.lines, (c.0, text))

short : (w front : List ℕ) (trees : List LineTree) (s : Settings) (j : List Entry) → AreRecords w trees → IsCut front (log_text s j) → Logs status.NoMemory (w ++ front) trees s j
short w front trees s j h c = inr (h.lines, (front, ap (λ x. x ++ front) h.text, c))

-- no log is put behind lines that aren't whole
unlogged : (t : Status) (told : Told) (r : Stage) (i : Taken) (w : List ℕ) (trees : List LineTree) (s : Settings) (j : List Entry) → is_logged t ≡ false → IsTied (Some t) told r i → Written (Some t) w trees → Logs t w trees s j
unlogged status.WriteFault told r i w trees s j is tied h =
    (h.0, (h.1.0 ++ log_text s j, sym (append_assoc w h.1.0 (log_text s j)) ∙ ap (λ x. x ++ log_text s j) h.1.1))
unlogged status.NoMemory told r i w trees s j is tied h = inl h
unlogged status.Done told r i w trees s j is tied h = let f : true ≡ false = is in absurd cc
unlogged status.Budget told r i w trees s j is tied h = let f : true ≡ false = is in absurd cc
unlogged status.History told r i w trees s j is tied h = let f : true ≡ false = is in absurd cc
unlogged status.ReadFault told r i w trees s j is tied h = let f : true ≡ false = is in absurd cc
unlogged status.Words told r i w trees s j is tied h = absurd tied.cause
unlogged (status.File g) told r i w trees s j is tied h = absurd tied.cause
unlogged status.Rejected told r i w trees s j is tied h = absurd tied.cause

-- why a session is over, once its log was put behind its lines
why_still : (name : List ℕ) (s : Status) (t : Told) (c : Closed) (state : State) (w : Option (List ℕ)) → Why (File name) s t c state → Why (File name) s (with_put t w t.put_faults) c state
why_still name status.Done t c state w h = (
  record { file = h.0.file; poll = h.0.poll; put = h.0.put },
  record { budget = h.1.budget; history = h.1.history; input = h.1.input },
  elim h.2 [ inl done ↦ inl (record { ended = done.ended; all = done.all; still = done.still }) | inr exited ↦ inr exited ],
)
why_still name status.Budget t c state w h = (record { file = h.0.file; poll = h.0.poll; put = h.0.put }, h.1)
why_still name status.History t c state w h = (record { file = h.0.file; poll = h.0.poll; put = h.0.put }, h.1, h.2)
why_still name status.ReadFault t c state w h = h
why_still name status.WriteFault t c state w h = h
why_still name status.NoMemory t c state w h = tt
why_still name status.Words t c state w h = absurd h
why_still name (status.File f) t c state w h = absurd h
why_still name status.Rejected t c state w h = absurd h

-- the lines of the journal that is left
lines_of : (b : Bool) (s : Status) (t : Told) (c : Closed) (o : IsHanded b s t c) → IfSome t.written (λ w. Written (Some s) w (said_lines c.opening c.journal))
lines_of b s t c o = rw (o.left.opening, o.left.journal) o.tied.written

not_both : (b : Bool) → b && true ≡ false → b ≡ false
not_both true is = let f : true ≡ false = is in absurd cc
not_both false is = refl

tells : (b : Bool) (s : Status) (t : Told) (c : Closed) (o : IsHanded b s t c) → is_logged s && b ≡ false → (w : List ℕ) → Written (Some s) w (said_lines c.opening c.journal) → Tells b s w c
tells false s t c o is w h = h
tells true s t c o is w h = unlogged s t o.run o.input w (said_lines c.opening c.journal) c.opening.settings c.journal (not_both (is_logged s) is) o.tied h

-- no log is put
pub handed_still : (b : Bool) (s : Status) (t : Told) (c : Closed) → IsHanded b s t c → is_logged s && b ≡ false → Headline s t c
handed_still b s t c o is =
    heading_file s b t t.written t.put_faults o.run o.input c o.left o.tied.held o.asked
    (same_for t.written (λ w. Written (Some s) w (said_lines c.opening c.journal)) (λ w. Tells b s w c) (tells b s t c o is) (lines_of b s t c o))
    (whys o.asked.name s t o.run o.input c o.left o.tied)

records : (b : Bool) (s : Status) (t : Told) (c : Closed) (o : IsHanded b s t c) → is_logged s ≡ true → IfSome t.written (λ w. AreRecords w (said_lines c.opening c.journal))
records b s t c o is = same_for t.written (λ w. Written (Some s) w (said_lines c.opening c.journal)) (λ w. AreRecords w (said_lines c.opening c.journal)) (λ w h. records_of s w (said_lines c.opening c.journal) is h) (lines_of b s t c o)

-- the log was put
pub handed_whole : (b : Bool) (s : Status) (t u : Told) (c : Closed) → IsHanded b s t c → is_logged s && b ≡ true → PutsLog (Ok true) c.opening.settings c.journal t u → Headline s u c
handed_whole false s t u c o is puts = absurd (let f = (both_true (is_logged s) false is).1 in cc)
handed_whole true s t u c o is puts =
    let logged = (both_true (is_logged s) true is).0 in
    let trees = said_lines c.opening c.journal in
    let log = log_text c.opening.settings c.journal in
    let P : Told → Type 0 = λ v. Headline s v c in
    subst P (sym puts.1) (heading_file s true t (more t.written log) t.put_faults o.run o.input c o.left o.tied.held o.asked
    (behind t.written log (λ w. AreRecords w trees) (λ w. Tells true s w c) (λ w h. whole s w trees c.opening.settings c.journal logged h puts.0) (records true s t c o logged))
    (why_still o.asked.name s t c o.run.state (more t.written log) (whys o.asked.name s t o.run o.input c o.left o.tied)))

-- a put of it failed
pub handed_cut : (b : Bool) (s : Status) (t u : Told) (c : Closed) → IsHanded b s t c → is_logged s && b ≡ true → PutsLog (Ok false) c.opening.settings c.journal t u → Headline status.WriteFault u c
handed_cut false s t u c o is puts = absurd (let f = (both_true (is_logged s) false is).1 in cc)
handed_cut true s t u c o is puts =
    let logged = (both_true (is_logged s) true is).0 in
    let trees = said_lines c.opening c.journal in
    let front = puts.0 in
    let faults = puts.2.0 in
    let rose : 0 < faults = let h = puts.2.1 in omega (arith, h) in
    let P : Told → Type 0 = λ v. Headline status.WriteFault v c in
    subst P (sym puts.2.2) (heading_file status.WriteFault true t (more t.written front) faults o.run o.input c o.left o.tied.held o.asked
    (behind t.written front (λ w. AreRecords w trees) (λ w. Tells true status.WriteFault w c) (λ w h. cut w front trees c.opening.settings c.journal h puts.1) (records true s t c o logged))
    rose)

-- memory ran out for it
pub handed_short : (b : Bool) (s : Status) (t u : Told) (c : Closed) (e : NoMemory) → IsHanded b s t c → is_logged s && b ≡ true → PutsLog (Err e) c.opening.settings c.journal t u → Headline status.NoMemory u c
handed_short false s t u c e o is puts = absurd (let f = (both_true (is_logged s) false is).1 in cc)
handed_short true s t u c e o is puts =
    let logged = (both_true (is_logged s) true is).0 in
    let trees = said_lines c.opening c.journal in
    let front = puts.0 in
    let P : Told → Type 0 = λ v. Headline status.NoMemory v c in
    subst P (sym puts.2) (heading_file status.NoMemory true t (more t.written front) t.put_faults o.run o.input c o.left o.tied.held o.asked
    (behind t.written front (λ w. AreRecords w trees) (λ w. Tells true status.NoMemory w c) (λ w h. short w front trees c.opening.settings c.journal h puts.1) (records true s t c o logged))
    tt)

-- the settings and the entries have lines in a log
pub handed_ranges : (b : Bool) (s : Status) (t : Told) (c : Closed) → IsHanded b s t c → AreSettings c.opening.settings
handed_ranges b s t c o = subst AreSettings (sym (named t o.run.opening c.opening (File o.asked.name) o.asked.settings b o.left.opening o.tied.held.file o.asked.served).1) o.asked.ranges

pub handed_stand : (b : Bool) (s : Status) (t : Told) (c : Closed) → IsHanded b s t c → list_all has_bytes c.journal ≡ true
handed_stand b s t c o = entries_stand c.opening c.journal o.run.state o.left.leaves
