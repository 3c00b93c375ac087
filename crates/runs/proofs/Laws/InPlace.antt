-- A run that leaves its table where it is has the context, the table and the reports of the run, proved.
use Rattle.std.specs.Prelude.{ℕ, ◌≤◌, ◌≡◌, refl, Bool, true, false, cond, not, ◌&&◌, List, [], ◌∷◌, ◌++◌, leb, length, take}
use Rattle.std.proofs.Common.{sym, ap, ap₂, ◌∙◌, arith, length-append, length-take, leb-true, ne_eqb}
use Rattle.std.proofs.Math.Bool.{and-eq-true_iff}
use Rattle.std.proofs.lemmas.Bool.{not-true}
use Rattle.model.specs.declared.Context.{Context}
use Rattle.model.specs.Buffers.{put}
use Rattle.model.specs.Tables.{limit}
use Rattle.model.specs.Events.{event}
use Rattle.model.specs.Scopes.{has_scope}
use Rattle.model.specs.Answers.{answer, created}
use Rattle.model.specs.Steps.{new_table}
use Rattle.laws.specs.Buffers.{take_put, take_put_front, length_put_least}
use Rattle.laws.specs.Steps.{new_table_unscoped, stepped_room}
use Rattle.runs.specs.Runs.{Run, started, run_answer, run_after, run_report, run_reports, run_of}
use Rattle.runs.specs.InPlace.{stays, in_place, in_place_after, in_place_reports, in_place_of, in_place_tables, run_tables, InPlace, InPlaceByTheBook}
use Rattle.runs.proofs.Laws.First.{first_run_holds}
use Rattle.runs.proofs.Laws.Steps.{by_answer, run_after_accepted, run_after_refused, Tabled, tabled_whole, tabled_started, tabled_after, Sound, sound_answer, sound_after}

-- an event that leaves the table in its buffer has no scope, and both buffers are long
pub record Stays (s : Run) (e : List ℕ) : Type 0 where
  pub front : limit ≤ length s.front
  pub back : limit ≤ length s.back
  pub unscoped : has_scope s.context (event e) ≡ false

pub stays_parts : (s : Run) (e : List ℕ) → stays s e ≡ true → Stays s e
unfolding stays
stays_parts s e h =
    let long = leb limit (length s.front) && leb limit (length s.back) in
    let parts = (and-eq-true_iff long (not (has_scope s.context (event e)))).0 h in
    let buffers = (and-eq-true_iff (leb limit (length s.front)) (leb limit (length s.back))).0 parts.0 in
    record {
      front = leb-true limit (length s.front) buffers.0;
      back = leb-true limit (length s.back) buffers.1;
      unscoped = not-true (has_scope s.context (event e)) parts.1;
    }

-- the run after such an event, by its answer
pub in_place_accepted : (s : Run) (e : List ℕ) → run_answer s e ≡ 0
    → in_place s e
    ≡ record {
      context = (run_after s e).context;
      table = s.table ++ created e;
      front = put (length s.table) (created e) s.front;
      back = s.back;
    }
unfolding in_place
in_place_accepted s e h = rw (h, run_after_accepted s e h)

pub in_place_refused : (s : Run) (e : List ℕ) → (run_answer s e ≡ 0 → ⊥) → in_place s e ≡ s
unfolding in_place
in_place_refused s e h = rw (ne_eqb (run_answer s e) 0 h)

-- two runs with long buffers, at the same context and table
pub record Matching (s s' : Run) : Type 0 where
  pub context : s.context ≡ s'.context
  pub table : s.table ≡ s'.table
  pub sound : Sound s
  pub sound' : Sound s'

-- two runs are one, or match
pub data Alike (s s' : Run) : Type 0 where
  one : s ≡ s' → Alike s s'
  both : Matching s s' → Alike s s'

matching_answer : (s s' : Run) (e : List ℕ) → Matching s s' → run_answer s e ≡ run_answer s' e
matching_answer s s' e m =
    sound_answer s e m.sound ∙ ap₂ (λ c t. answer c t e limit) m.context m.table ∙ sym (sound_answer s' e m.sound')

matching_report : (s s' : Run) (e : List ℕ) → Matching s s' → run_report s e ≡ run_report s' e
unfolding run_report
matching_report s s' e m =
    rw (stepped_room s.context s.table e (length s.back) m.sound.back, stepped_room s'.context s'.table e (length s'.back) m.sound'.back, m.context, m.table)

matching_after : (s s' : Run) (e : List ℕ) → Matching s s' → Matching (run_after s e) (run_after s' e)
matching_after s s' e m = by_answer (run_answer s e) accepted refused
  where
    same : run_answer s e ≡ run_answer s' e
    same = matching_answer s s' e m

    accepted : run_answer s e ≡ 0 → Matching (run_after s e) (run_after s' e)
    accepted h =
        let told = run_after_accepted s e h in
        let told' = run_after_accepted s' e (sym same ∙ h) in
        record {
          context = rw (told, told', m.context);
          table = rw (told, told', m.context, m.table);
          sound = sound_after s e m.sound;
          sound' = sound_after s' e m.sound';
        }

    refused : (run_answer s e ≡ 0 → ⊥) → Matching (run_after s e) (run_after s' e)
    refused h = rw (run_after_refused s e h, run_after_refused s' e (λ z. h (same ∙ z))) m

pub alike_answer : {s s' : Run} (e : List ℕ) → Alike s s' → run_answer s e ≡ run_answer s' e
alike_answer e (one p) = ap (λ (x : Run). run_answer x e) p
alike_answer {s} {s'} e (both m) = matching_answer s s' e m

pub alike_report : {s s' : Run} (e : List ℕ) → Alike s s' → run_report s e ≡ run_report s' e
alike_report e (one p) = ap (λ (x : Run). run_report x e) p
alike_report {s} {s'} e (both m) = matching_report s s' e m

pub alike_after : {s s' : Run} (e : List ℕ) → Alike s s' → Alike (run_after s e) (run_after s' e)
alike_after e (one p) = one (ap (λ (x : Run). run_after x e) p)
alike_after {s} {s'} e (both m) = both (matching_after s s' e m)

pub alike_context : {s s' : Run} → Alike s s' → s.context ≡ s'.context
alike_context (one p) = ap (λ (x : Run). x.context) p
alike_context (both m) = m.context

pub alike_table : {s s' : Run} → Alike s s' → s.table ≡ s'.table
alike_table (one p) = ap (λ (x : Run). x.table) p
alike_table (both m) = m.table

alike_trans : {s s' s'' : Run} → Alike s s' → Alike s' s'' → Alike s s''
alike_trans {s'' = s''} (one p) k = rw p k
alike_trans {s} (both m) (one q) = rw (← q) (both m)
alike_trans (both m) (both n) =
    both (record { context = m.context ∙ n.context; table = m.table ∙ n.table; sound = m.sound; sound' = n.sound' })

-- ---- a table that stays in its buffer

-- the table has the bytes of the new one
in_place_matching : (s : Run) (e : List ℕ) → Tabled s → Stays s e → Matching (in_place s e) (run_after s e)
in_place_matching s e k st = by_answer (run_answer s e) accepted refused
  where
    begun : Sound s
    begun = record { tabled = k; front = st.front; back = st.back }

    accepted : run_answer s e ≡ 0 → Matching (in_place s e) (run_after s e)
    accepted h =
        let after = sound_after s e begun in
        let table : s.table ++ created e ≡ (run_after s e).table =
        rw (run_after_accepted s e h) (sym (new_table_unscoped s.context s.table e st.unscoped (tabled_whole s k))) in
        rw (in_place_accepted s e h)
        (record {
          context = refl;
          table = table;
          sound =
              record {
                tabled = record { valid = rw table after.tabled.valid; short = rw table after.tabled.short };
                front = omega (arith, st.front, length_put_least (length s.table) (created e) s.front);
                back = st.back;
              };
          sound' = after;
        })

    refused : (run_answer s e ≡ 0 → ⊥) → Matching (in_place s e) (run_after s e)
    refused h =
        rw (in_place_refused s e h, run_after_refused s e h)
        (record { context = refl; table = refl; sound = begun; sound' = begun })

pub in_place_alike : (s : Run) (e : List ℕ) → Tabled s → Alike (in_place_after s e) (run_after s e)
unfolding in_place_after
in_place_alike s e k = go (stays s e) refl
  where
    go : (b : Bool) → stays s e ≡ b → Alike (cond b (in_place s e) (run_after s e)) (run_after s e)
    go true h = both (in_place_matching s e k (stays_parts s e h))
    go false h = one refl

pub tabled_alike : {s s' : Run} → Alike s s' → Tabled s' → Tabled s
tabled_alike k t = record { valid = rw (alike_context k, alike_table k) t.valid; short = rw (alike_table k) t.short }

-- a whole list of events
pub alike_of : (s s' : Run) (es : List (List ℕ)) → Tabled s' → Alike s s' → Alike (in_place_of s es) (run_of s' es)
unfolding in_place_of run_of
alike_of s s' [] t k = k
alike_of s s' (e ∷ es) t k =
    alike_of (in_place_after s e) (run_after s' e) es (tabled_after s' e t) (alike_trans (in_place_alike s e (tabled_alike k t)) (alike_after e k))

reports_alike : (s s' : Run) (es : List (List ℕ)) → Tabled s' → Alike s s' → in_place_reports s es ≡ run_reports s' es
unfolding in_place_reports run_reports
reports_alike s s' [] t k = refl
reports_alike s s' (e ∷ es) t k =
    ap₂ (λ r rs. r ∷ rs) (alike_report e k)
    (reports_alike (in_place_after s e) (run_after s' e) es (tabled_after s' e t) (alike_trans (in_place_alike s e (tabled_alike k t)) (alike_after e k)))

tables_alike : (s s' : Run) (es : List (List ℕ)) → Tabled s' → Alike s s' → in_place_tables s es ≡ run_tables s' es
unfolding in_place_tables run_tables
tables_alike s s' [] t k = refl
tables_alike s s' (e ∷ es) t k =
    let after = alike_trans (in_place_alike s e (tabled_alike k t)) (alike_after e k) in
    ap₂ (λ x xs. x ∷ xs) (alike_table after) (tables_alike (in_place_after s e) (run_after s' e) es (tabled_after s' e t) after)

-- ---- the buffer holds the table

unfoldable FrontHolds : Run → Type 0
FrontHolds s = take (length s.table) s.front ≡ s.table

front_holds_run : (s : Run) (e : List ℕ) → FrontHolds s → FrontHolds (run_after s e)
unfolding FrontHolds
front_holds_run s e h =
    by_answer (run_answer s e) (λ z. rw (run_after_accepted s e z) (take_put_front (new_table s.context s.table e) s.back)) (λ some. rw (run_after_refused s e some) h)

front_holds_in_place : (s : Run) (e : List ℕ) → FrontHolds s → FrontHolds (in_place s e)
unfolding FrontHolds
front_holds_in_place s e h = by_answer (run_answer s e) accepted (λ some. rw (in_place_refused s e some) h)
  where
    within : length s.table ≤ length s.front
    within = omega (arith, ap length h, length-take (length s.table) s.front)

    accepted : run_answer s e ≡ 0 → take (length (in_place s e).table) (in_place s e).front ≡ (in_place s e).table
    accepted z =
        rw (in_place_accepted s e z, length-append s.table (created e), take_put (length s.table) (created e) s.front within, h)

front_holds_after : (s : Run) (e : List ℕ) → FrontHolds s → FrontHolds (in_place_after s e)
unfolding in_place_after
front_holds_after s e h = go (stays s e)
  where
    go : (b : Bool) → FrontHolds (cond b (in_place s e) (run_after s e))
    go true = front_holds_in_place s e h
    go false = front_holds_run s e h

front_holds_of : (s : Run) (es : List (List ℕ)) → FrontHolds s → FrontHolds (in_place_of s es)
unfolding in_place_of
front_holds_of s [] h = h
front_holds_of s (e ∷ es) h = front_holds_of (in_place_after s e) es (front_holds_after s e h)

front_holds_started : (c : Context) (a b : List ℕ) → FrontHolds (started c a b)
unfolding FrontHolds started
front_holds_started c a b = refl

pub in_place_holds : (c : Context) (es : List (List ℕ)) (a b : List ℕ) → InPlace c es a b
unfolding FrontHolds
in_place_holds c es a b =
    let begun = tabled_started c a b in
    let done = alike_of (started c a b) (started c a b) es begun (one refl) in
    record {
      context = alike_context done;
      table = alike_table done;
      held = front_holds_of (started c a b) es (front_holds_started c a b);
      tables = tables_alike (started c a b) (started c a b) es begun (one refl);
      reports = reports_alike (started c a b) (started c a b) es begun (one refl);
    }

pub in_place_by_the_book : (c : Context) (es : List (List ℕ)) (a b : List ℕ) → limit ≤ length a → limit ≤ length b → InPlaceByTheBook c es a b
in_place_by_the_book c es a b h k =
    let same = in_place_holds c es a b in
    let book = first_run_holds c es a b h k in
    record {
      context = same.context ∙ book.context;
      table = same.table ∙ book.table;
      reports = same.reports ∙ book.reports;
    }
