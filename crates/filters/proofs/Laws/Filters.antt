-- A filtered table: its length, record by record, where the test holds of every record or of none, by two tests
-- that agree, and as part of the new table.
use Rattle.std.specs.Prelude.{ℕ, suc, ◌+◌, ◌≤◌, Bool, ◌≡◌, take, drop}
use Rattle.std.proofs.Math.Bool.{true, false, not}
use mathlib.Core.List.{List, [], ◌++◌}
use Rattle.std.proofs.Math.Path.{sym, ap}
use Rattle.std.proofs.Common.{◌∙◌, arith}
use Rattle.std.proofs.Math.ListN.{length}
use Rattle.model.specs.declared.Context.{Context}
use Rattle.model.specs.declared.Event.{Event}
use Rattle.model.specs.declared.Mapping.{Mapping}
use Rattle.model.specs.Buffers.{put}
use Rattle.model.specs.Mappings.{mapping}
use Rattle.model.specs.Tables.{records, joined, whole, only, count}
use Rattle.model.specs.Events.{event}
use Rattle.model.specs.Layouts.{mapping_kind}
use Rattle.model.specs.Scopes.{scope}
use Rattle.model.specs.Answers.{created}
use Rattle.model.specs.Steps.{new_table, dropped_count}
use Rattle.laws.specs.Buffers.{put_nil}
use Rattle.laws.specs.Mappings.{Valid, valid_starts, starts_parts}
use Rattle.laws.specs.Tables.{records_nil, only_true, only_false, only_all, only_none, only_agree, records_valid, whole_joined, length_joined_only, length_joined_records, Next}
use Rattle.filters.specs.declared.Filtered.{Filtered}
use Rattle.filters.specs.Filters.{left, filtered, scoped, Filters}

module _ (test : Mapping → Bool) where
  pub length_filtered : (t : List ℕ) → length (filtered test t) ≤ length t
  unfolding filtered
  length_filtered t =
      omega (arith, length_joined_only (λ r. not (test (mapping r))) (records t), length_joined_records t)

  -- no records
  pub filtered_nil : filtered test [] ≡ []
  unfolding filtered joined only
  filtered_nil = rw records_nil

  pub scoped_nil : scoped test [] ≡ 0
  unfolding scoped count only
  scoped_nil = rw records_nil

  -- the record at a position is out of scope, or in scope
  module _ {t : List ℕ} {at n : ℕ} (next : Next t at n) where
    pub filtered_out : test (mapping (drop at t)) ≡ false
        → filtered test (drop at t) ≡ take n (drop at t) ++ filtered test (drop (at + n) t)
    unfolding filtered joined
    filtered_out out =
        let held : not (test (mapping (take n (drop at t)))) ≡ true = rw (next.same, out) in
        rw (next.split, only_true (λ r. not (test (mapping r))) (take n (drop at t)) (records (drop (at + n) t)) held)

    pub filtered_in : test (mapping (drop at t)) ≡ true → filtered test (drop at t) ≡ filtered test (drop (at + n) t)
    unfolding filtered
    filtered_in inside =
        let held : not (test (mapping (take n (drop at t)))) ≡ false = rw (next.same, inside) in
        rw (next.split, only_false (λ r. not (test (mapping r))) (take n (drop at t)) (records (drop (at + n) t)) held)

    pub scoped_out : test (mapping (drop at t)) ≡ false → scoped test (drop at t) ≡ scoped test (drop (at + n) t)
    unfolding scoped count
    scoped_out out =
        let held : test (mapping (take n (drop at t))) ≡ false = rw (next.same, out) in
        rw (next.split, only_false (λ r. test (mapping r)) (take n (drop at t)) (records (drop (at + n) t)) held)

    pub scoped_in : test (mapping (drop at t)) ≡ true → scoped test (drop at t) ≡ suc (scoped test (drop (at + n) t))
    unfolding scoped count
    scoped_in inside =
        let held : test (mapping (take n (drop at t))) ≡ true = rw (next.same, inside) in
        rw (next.split, only_true (λ r. test (mapping r)) (take n (drop at t)) (records (drop (at + n) t)) held)

  -- a test that holds of no record leaves the table
  module _ (out : (m : Mapping) → test m ≡ false) where
    pub left_all : (t : List ℕ) → left test t ≡ records t
    left_all t = only_all (λ r. not (test (mapping r))) (records t) (λ r. rw (out (mapping r)))

    pub filters_all : (t buffer : List ℕ) → whole t ≡ true → {told : ℕ} {after : List ℕ}
        → told ≡ length t → after ≡ put 0 t buffer → Filters test t buffer (record { length = told; dropped = 0 }) after
    unfolding filtered scoped count
    filters_all t buffer w size made =
        let all : filtered test t ≡ t = ap joined (left_all t) ∙ whole_joined t w in
        record {
          size = size ∙ ap length (sym all);
          dropped = sym (ap length (only_none (λ r. test (mapping r)) (records t) (λ r. out (mapping r))));
          buffer = rw all made;
        }

  -- a test that holds of every record leaves none
  module _ (all : (m : Mapping) → test m ≡ true) where
    pub left_none : (t : List ℕ) → left test t ≡ []
    left_none t = only_none (λ r. not (test (mapping r))) (records t) (λ r. rw (all (mapping r)))

    pub filters_none : (t buffer : List ℕ) {n : ℕ} → n ≡ length (records t) → Filters test t buffer (record { length = 0; dropped = n }) buffer
    unfolding filtered scoped count joined
    filters_none t buffer is =
        let none : filtered test t ≡ [] = ap joined (left_none t) in
        record {
          size = sym (ap length none);
          dropped = is ∙ sym (ap length (only_all (λ r. test (mapping r)) (records t) (λ r. all (mapping r))));
          buffer = rw none (sym (put_nil 0 buffer));
        }

-- two tests that agree on the mappings of known kinds filter alike
module _ (test other : Mapping → Bool) (agree : (m : Mapping) → mapping_kind m.kind ≡ true → test m ≡ other m) (t : List ℕ) where
  same : (r : List ℕ) → Valid r → test (mapping r) ≡ other (mapping r)
  unfolding mapping
  same r valid = agree (mapping r) (starts_parts r (valid_starts r valid)).held.known

  pub left_agree : left test t ≡ left other t
  left_agree = only_agree (λ r. not (test (mapping r))) (λ r. not (other (mapping r))) (records_valid t) (λ r valid. ap not (same r valid))

  pub filters_agree : {buffer after : List ℕ} {told : Filtered} → Filters test t buffer told after → Filters other t buffer told after
  unfolding filtered scoped count
  filters_agree f =
      let kept : filtered test t ≡ filtered other t = ap joined left_agree in
      let gone : scoped test t ≡ scoped other t = ap length (only_agree (λ r. test (mapping r)) (λ r. other (mapping r)) (records_valid t) same) in
      record { size = f.size ∙ ap length kept; dropped = f.dropped ∙ gone; buffer = rw (← kept) f.buffer }

-- the new table and the dropped count of an accepted event, by the event that was read
module _ (c : Context) (t raw : List ℕ) {e : Event} (read : e ≡ event raw) where
  pub new_table_filtered : new_table c t raw ≡ filtered (scope c e) t ++ created raw
  unfolding new_table filtered
  new_table_filtered = rw read

  pub dropped_count_scoped : dropped_count c t raw ≡ scoped (scope c e) t
  unfolding dropped_count scoped
  dropped_count_scoped = rw read
