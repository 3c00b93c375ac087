-- The records of a widened table: each widened in its place, those out of scope as at 48 bits, and as many by every count.
use Rattle.std.specs.Prelude.{ℕ, min, ◌+◌, ◌≤◌, Bool, ◌≡◌, ltb}
use Rattle.std.proofs.Math.Bool.{true, false, cond, not}
use mathlib.Core.List.{List, [], ◌∷◌, map, map-append}
use Rattle.std.proofs.Math.Path.{refl, ap}
use Rattle.std.proofs.Common.{sym, ◌∙◌, arith}
use borrow.Author.Tests.{le-ltb, ltb-false}
use Rattle.std.proofs.Math.ListN.{length}
use Rattle.std.proofs.lemmas.List.{length-map}
use Rattle.model.specs.declared.Context.{Context}
use Rattle.model.specs.Layouts.{kind_of, mapping_kind}
use Rattle.model.specs.Mappings.{mapping, other_width}
use Rattle.model.specs.Tables.{limit, joined, records, only, count}
use Rattle.model.specs.Events.{event, valid_event}
use Rattle.model.specs.Answers.{first, creation, created, no_room, valid_table, stored_grounds}
use Rattle.model.specs.Steps.{in_scope, new_table, dropped_count, new_records}
use Rattle.laws.specs.Lists.{Every, none, more}
use Rattle.laws.specs.Mappings.{Valid, valid_starts, starts_parts}
use Rattle.laws.specs.Tables.{records_valid, whole_joined, length_joined_cons}
use Rattle.laws.specs.Steps.{joined_creation, creation_every_valid, creation_of_width, new_table_joined, records_new_table}
use Rattle.laws.specs.Answers.{OfWidth, valid_table_parts, stored_passes, first_append_none}
use Rattle.tallies.specs.Tallies.{row_of, of_pcid, pcid_counts}
use Rattle.tallies.proofs.Laws.Lists.{tabulate_agree}
use Rattle.tally_rows.specs.Rows.{of_row, kind_counts}
use Rattle.widening.specs.Widening.{widened, widened_table, widening_grounds, widening_answer}
use Rattle.widening.specs.Theorem.{with_width, Widens}
use Rattle.widening.proofs.Laws.Loops.{length_rewritten, widened_other, widened_own}
use Rattle.widening.proofs.Laws.Tables.{Sibling, widened_sibling, widening_widens_holds}
use Rattle.widening_runs.specs.Simulation.{widened_event, canonical_where_looked_at}
use Rattle.widening_runs.proofs.Laws.Grounds.{widened_creation, widened_other_event, creation_sibling, twin_events, scope_of_twin}

-- a valid record of 48 bits
pub record Narrow (r : List ℕ) : Type 0 where
  pub valid : Valid r
  pub own : OfWidth 48 r

pub narrow_sibling : (r : List ℕ) → Narrow r → Sibling (mapping r) (mapping (widened r))
narrow_sibling r n = widened_sibling r n.valid n.own

every_narrow : {rs : List (List ℕ)} → Every Valid rs → Every (OfWidth 48) rs → Every Narrow rs
every_narrow none none = none
every_narrow (more v vs) (more o os) = more (record { valid = v; own = o }) (every_narrow vs os)

pub records_narrow : (t : List ℕ) → valid_table 48 t ≡ true → Every Narrow (records t)
records_narrow t valid = every_narrow (records_valid t) (valid_table_parts 48 t valid).1

-- ---- lengths

length_widened_ge : (r : List ℕ) → Narrow r → length r ≤ length (widened r)
length_widened_ge r n = go (other_width 57 (kind_of r)) refl
  where
    go : (b : Bool) → other_width 57 (kind_of r) ≡ b → length r ≤ length (widened r)
    go true is =
        omega (arith, ap length (widened_other r is), length_rewritten r (starts_parts r (valid_starts r n.valid)).held)
    go false is = omega (arith, ap length (widened_own r is))

length_joined_ge : {rs : List (List ℕ)} → Every Narrow rs → length (joined rs) ≤ length (joined (map widened rs))
length_joined_ge none = omega arith
length_joined_ge (more {x} {xs} n ns) =
    omega (arith, length_widened_ge x n, length_joined_ge ns, length_joined_cons x xs, length_joined_cons (widened x) (map widened xs))

-- a widened table is not shorter
pub length_widened_table : (t : List ℕ) → valid_table 48 t ≡ true → length t ≤ length (widened_table t)
unfolding widened_table
length_widened_table t valid =
    omega (arith, length_joined_ge (records_narrow t valid), ap length (whole_joined t (valid_table_parts 48 t valid).0))

-- ---- the records of a widened table, on the converter's own theorem

accepted_with_room : (t : List ℕ) → first (stored_grounds 48 t) ≡ 0 → length (widened_table t) ≤ limit → widening_answer t limit ≡ 0
unfolding widening_answer widening_grounds first
accepted_with_room t passes short =
    first_append_none (stored_grounds 48 t) ((12, ltb (min limit limit) (length (widened_table t))) ∷ []) refl passes
    ∙ rw (le-ltb (min limit limit) (length (widened_table t)) (omega arith))

pub table_widens : (t : List ℕ) → valid_table 48 t ≡ true → length (widened_table t) ≤ limit → Widens t
table_widens t valid short = widening_widens_holds t limit accepted
  where
    passes : first (stored_grounds 48 t) ≡ 0
    passes = stored_passes 48 t valid (omega (arith, length_widened_table t valid))

    accepted : widening_answer t limit ≡ 0
    accepted = accepted_with_room t passes short

-- ---- tests of the records, and what they let in

pub only_widened : (p q : List ℕ → Bool) {rs : List (List ℕ)} → Every Narrow rs → ((r : List ℕ) → Narrow r → q (widened r) ≡ p r)
    → only q (map widened rs) ≡ map widened (only p rs)
unfolding only
only_widened p q none alike = refl
only_widened p q (more {x} {xs} n ns) alike =
    rw (alike x n, only_widened p q ns alike) (go (p x))
  where
    go : (b : Bool) → cond b (widened x ∷ map widened (only p xs)) (map widened (only p xs)) ≡ map widened (cond b (x ∷ only p xs) (only p xs))
    go true = refl
    go false = refl

pub count_widened : (p q : List ℕ → Bool) {rs : List (List ℕ)} → Every Narrow rs → ((r : List ℕ) → Narrow r → q (widened r) ≡ p r)
    → count q (map widened rs) ≡ count p rs
unfolding count
count_widened p q {rs} ns alike = ap length (only_widened p q ns alike) ∙ length-map (only p rs) widened

-- "in the same six rows, counted as their 48-bit siblings"
of_row_widened : (row span : ℕ) (r : List ℕ) → Narrow r → of_row row span (widened r) ≡ of_row row span r
unfolding of_row row_of
of_row_widened row span r n =
    let s = narrow_sibling r n in
    rw (s.is_linear, s.is_physical, s.is_cache, s.span)

of_pcid_widened : (pcid : ℕ) (r : List ℕ) → Narrow r → of_pcid pcid (widened r) ≡ of_pcid pcid r
unfolding of_pcid
of_pcid_widened pcid r n = let s = narrow_sibling r n in rw (s.is_physical, s.pcid)

pub kind_counts_widened : {rs : List (List ℕ)} → Every Narrow rs → kind_counts (map widened rs) ≡ kind_counts rs
unfolding kind_counts
kind_counts_widened {rs} ns =
    tabulate_agree 6 _ _ (λ row low. ap (λ (counts : List ℕ). record { spans = counts })
    (tabulate_agree 5 (λ span. count (of_row row span) (map widened rs)) (λ span. count (of_row row span) rs) (λ span small.
    count_widened (of_row row span) (of_row row span) ns (of_row_widened row span))))

pub pcid_counts_widened : {rs : List (List ℕ)} → Every Narrow rs → pcid_counts (map widened rs) ≡ pcid_counts rs
unfolding pcid_counts
pcid_counts_widened {rs} ns =
    tabulate_agree 4096 (λ pcid. count (of_pcid pcid) (map widened rs)) (λ pcid. count (of_pcid pcid) rs) (λ pcid low.
    count_widened (of_pcid pcid) (of_pcid pcid) ns (of_pcid_widened pcid))

-- ---- the table after an event

module _ (e : List ℕ) (valid : valid_event 48 e ≡ true) where
  creation_widened : creation (widened_event e) ≡ map widened (creation e)
  unfolding creation mapping
  creation_widened = go (mapping_kind (kind_of e)) refl
    where
      go : (b : Bool) → mapping_kind (kind_of e) ≡ b
          → cond (mapping_kind (kind_of (widened_event e))) (widened_event e ∷ []) [] ≡ map widened (cond b (e ∷ []) [])
      go true known = rw (widened_creation e known, (creation_sibling e valid known).sibling_known)
      go false other = rw (widened_other_event e other, other)

  -- a creation is not shorter when it is widened
  length_created_ge : length (created e) ≤ length (created (widened_event e))
  length_created_ge =
      let longer = length_joined_ge (every_narrow (creation_every_valid 48 e valid) (creation_of_width 48 e valid)) in
      omega (arith, longer, ap length (joined_creation e), ap length (joined_creation (widened_event e)), ap (λ (rs : List (List ℕ)). length (joined rs)) creation_widened)

  -- where the step at width 57 has room, so has the step at width 48 in a buffer as long
  pub room_at_48 : (t : List ℕ) → valid_table 48 t ≡ true → (room : ℕ) → no_room room (widened_table t) (widened_event e) ≡ false
      → no_room room t e ≡ false
  unfolding no_room
  room_at_48 t table room enough =
      le-ltb (min room limit) (length t + length (created e))
      (omega (arith, length_widened_table t table, length_created_ge, ltb-false (min room limit) (length (widened_table t) + length (created (widened_event e))) enough))

module _ (c : Context) (e : List ℕ) (valid : valid_event 48 e ≡ true) (here : canonical_where_looked_at (event e) ≡ true) where
  in_scope_widened : (r : List ℕ) → Narrow r → in_scope (with_width 57 c) (widened_event e) (widened r) ≡ in_scope (with_width 48 c) e r
  in_scope_widened r n = scope_of_twin c (narrow_sibling r n) (twin_events e valid) here

  module _ (t : List ℕ) (table : valid_table 48 t ≡ true) (short : length (widened_table t) ≤ limit) where
    records_widened : records (widened_table t) ≡ map widened (records t)
    records_widened = (table_widens t table short).each

    new_records_widened : new_records (with_width 57 c) (widened_table t) (widened_event e) ≡ map widened (new_records (with_width 48 c) t e)
    unfolding new_records
    new_records_widened =
        rw (records_widened, creation_widened e valid, only_widened (λ r. not (in_scope (with_width 48 c) e r)) (λ r. not (in_scope (with_width 57 c) (widened_event e) r)) (records_narrow t table) (λ r n. ap not (in_scope_widened r n)))
        (sym (map-append widened (only (λ r. not (in_scope (with_width 48 c) e r)) (records t)) (creation e)))

    pub new_table_widened : new_table (with_width 57 c) (widened_table t) (widened_event e) ≡ widened_table (new_table (with_width 48 c) t e)
    unfolding widened_table
    new_table_widened =
        new_table_joined (with_width 57 c) (widened_table t) (widened_event e)
        ∙ ap joined new_records_widened
        ∙ ap (λ (rs : List (List ℕ)). joined (map widened rs)) (sym (records_new_table 48 (with_width 48 c) t e valid))

    pub dropped_count_widened : dropped_count (with_width 57 c) (widened_table t) (widened_event e) ≡ dropped_count (with_width 48 c) t e
    unfolding dropped_count
    dropped_count_widened = rw records_widened (count_widened (λ r. in_scope (with_width 48 c) e r) (λ r. in_scope (with_width 57 c) (widened_event e) r) (records_narrow t table) in_scope_widened)
