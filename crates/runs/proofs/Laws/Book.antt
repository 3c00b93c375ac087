-- The book: its standing records and lost records when a note is added, and the book after an event
-- by its answer.
use Rattle.std.specs.Prelude.{ℕ, ◌+◌, ◌≡◌, refl, Bool, true, false, cond, not, ◌&&◌, ◌||◌, List, [], ◌∷◌, ◌++◌}
use Rattle.std.proofs.Common.{sym, append-nil, arith, ne_eqb}
use Rattle.std.proofs.Math.Bool.{or-false, or_assoc, and-true, and-not_self}
use Rattle.model.specs.Layouts.{kind_of, mapping_kind}
use Rattle.model.specs.Tables.{only, count}
use Rattle.model.specs.Events.{event}
use Rattle.model.specs.Scopes.{next_context}
use Rattle.model.specs.Steps.{in_scope}
use Rattle.model.specs.Answers.{rule_with, creation}
use Rattle.runs.specs.Book.{Note, taken_by, stands, standing, lost, Book, book_answer, added, book_after, book_report}
use Rattle.laws.specs.Lists.{cond_append}

-- whether a record is taken, and a noted creation stands, when one more note is added
pub taken_by_append : (notes : List Note) (n : Note) (r : List ℕ)
    → taken_by (notes ++ (n ∷ [])) r ≡ (taken_by notes r || in_scope n.context n.event r)
unfolding taken_by
taken_by_append [] n r = or-false (in_scope n.context n.event r)
taken_by_append (m ∷ notes) n r =
    rw (taken_by_append notes n r)
    (sym (or_assoc (in_scope m.context m.event r) (taken_by notes r) (in_scope n.context n.event r)))

pub stands_append : (m : Note) (notes : List Note) (n : Note)
    → stands m (notes ++ (n ∷ [])) ≡ (stands m notes && not (in_scope n.context n.event m.event))
unfolding stands
stands_append m notes n =
    rw (taken_by_append notes n m.event)
    (go (mapping_kind (kind_of m.event)) (taken_by notes m.event) (in_scope n.context n.event m.event))
  where
    go : (a b c : Bool) → (a && not (b || c)) ≡ (a && not b && not c)
    go true true c = refl
    go true false c = refl
    go false b c = refl

-- the standing records when one more note is added: those out of its scope, and its own
pub standing_append : (notes : List Note) (n : Note)
    → standing (notes ++ (n ∷ [])) ≡ only (λ r. not (in_scope n.context n.event r)) (standing notes) ++ creation n.event
unfolding standing only stands taken_by creation
standing_append [] n = rw (and-true (mapping_kind (kind_of n.event)))
standing_append (m ∷ notes) n = rw (stands_append m notes n, standing_append notes n) (go (stands m notes))
  where
    outside : List ℕ → Bool
    outside r = not (in_scope n.context n.event r)

    go : (s : Bool)
        → cond (s && outside m.event) (m.event ∷ (only outside (standing notes) ++ creation n.event))
        (only outside (standing notes) ++ creation n.event)
        ≡ only outside (cond s (m.event ∷ standing notes) (standing notes)) ++ creation n.event
    go true = cond_append (outside m.event) m.event (only outside (standing notes)) (creation n.event)
    go false = refl

-- how many records are lost: those in the scope of the note added
pub lost_none : (notes : List Note) → lost notes [] ≡ 0
unfolding lost
lost_none [] = refl
lost_none (m ∷ notes) = rw (append-nil, and-not_self) (lost_none notes)

pub lost_one : (notes : List Note) (n : Note)
    → lost notes (n ∷ []) ≡ count (λ r. in_scope n.context n.event r) (standing notes)
unfolding lost standing count only
lost_one [] n = refl
lost_one (m ∷ notes) n =
    rw (stands_append m notes n, lost_one notes n)
    (go (stands m notes) (in_scope n.context n.event m.event) refl)
  where
    inside : List ℕ → Bool
    inside r = in_scope n.context n.event r

    go : (s i : Bool) → inside m.event ≡ i
        → cond (s && not (s && not i)) (1 + count inside (standing notes)) (count inside (standing notes))
        ≡ count inside (cond s (m.event ∷ standing notes) (standing notes))
    go true true q = rw q (omega arith)
    go true false q = rw q
    go false i q = refl

-- the book after an event and what it reports of it, by its answer
pub book_after_accepted : (b : Book) (e : List ℕ) → book_answer b e ≡ 0
    → book_after b e
    ≡ record { context = next_context b.context (event e); notes = b.notes ++ (record { context = b.context; event = e } ∷ []) }
unfolding book_after added
book_after_accepted b e h = rw h

pub book_after_refused : (b : Book) (e : List ℕ) → (book_answer b e ≡ 0 → ⊥) → book_after b e ≡ b
unfolding book_after added
book_after_refused b e h = rw (ne_eqb (book_answer b e) 0 h, append-nil)

pub book_report_accepted : (b : Book) (e : List ℕ) → book_answer b e ≡ 0
    → book_report b e
    ≡ record {
      answer = 0;
      rule = 0;
      dropped = count (λ r. in_scope b.context e r) (standing b.notes);
      context = next_context b.context (event e);
    }
unfolding book_report book_after added rule_with
book_report_accepted b e h = rw (h, lost_one)

pub book_report_refused : (b : Book) (e : List ℕ) → (book_answer b e ≡ 0 → ⊥)
    → book_report b e ≡ record { answer = book_answer b e; rule = rule_with b.context e (book_answer b e); dropped = 0; context = b.context }
unfolding book_report book_after added
book_report_refused b e h = rw (ne_eqb (book_answer b e) 0 h, lost_none)
