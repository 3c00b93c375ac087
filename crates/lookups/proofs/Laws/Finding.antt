-- What a lookup finds: the part that its search finds, and none where nothing is asked for or the table is refused.
use Rattle.std.specs.Prelude.{ℕ, ◌+◌, ◌-◌, ◌≤◌, ◌≡◌, refl, Bool, false, List, [], None, length, take, drop}
use Rattle.std.proofs.Common.{sym, ◌∙◌, arith}
use borrow.Author.Tests.{eq-eqb, ne_eqb}
use Rattle.model.specs.declared.Context.{Context}
use Rattle.model.specs.declared.Address.{Address}
use Rattle.model.specs.declared.Mapping.{Mapping}
use Rattle.model.specs.Mappings.{mapping}
use Rattle.model.specs.Tables.{records, only}
use Rattle.model.specs.Lookups.{usable, usable_records, lookup_answer, lookup, lookup_start, start_of}
use Rattle.laws.specs.Lists.{Every, none, more, end_of_part}
use Rattle.laws.specs.Lookups.{start_of_false}
use Rattle.laws.specs.Mappings.{Valid, valid_starts, starts_parts}
use Rattle.laws.specs.Tables.{records_valid, only_none, only_agree}
use Rattle.lookups.specs.Search.{AsksFor, Searched}

-- ---- nothing is asked for, and nothing found

start_of_never : (p : List ℕ → Bool) {rs : List (List ℕ)} → Every Valid rs → ((r : List ℕ) → Valid r → p r ≡ false) → (k at : ℕ) → start_of p k rs at ≡ 0
unfolding start_of
start_of_never p none never k at = refl
start_of_never p (more {x} {xs} valid others) never k at = start_of_false p x xs at k (never x valid) ∙ start_of_never p others never k (at + length x)

pub searched_nothing : {p : Mapping → Bool} → AsksFor p None → (t : List ℕ) (k : ℕ) → Searched p t k 0 0
searched_nothing {p} asks t k =
    let never : (r : List ℕ) → Valid r → p (mapping r) ≡ false = λ r valid. sym (asks.same r (starts_parts r (valid_starts r valid)).held) in
    let none_left : only (λ r. p (mapping r)) (records t) ≡ [] =
    only_agree (λ r. p (mapping r)) (λ r. false) (records_valid t) never ∙ only_none (λ r. false) (records t) (λ r. refl) in
    record {
      ordered = omega arith;
      within = omega arith;
      part = rw none_left;
      place = sym (start_of_never (λ r. p (mapping r)) (records_valid t) never k 0);
    }

-- ---- what a lookup finds

module _ (c : Context) (a : Address) (t : List ℕ) (k : ℕ) where
  pub record Finds (start end : ℕ) : Type 0 where
    pub places : (start ≡ lookup_start c a t k) × (end ≡ lookup_start c a t k + length (lookup c a t k))
    pub part : (end ≤ length t) × (take (end - start) (drop start t) ≡ lookup c a t k)

  pub finds : {start end : ℕ} → lookup_answer c t ≡ 0 → Searched (usable c a) t k start end → Finds start end
  unfolding lookup lookup_start usable_records
  finds {start} {end} passes found =
      let is_0 = eq-eqb (lookup_answer c t) 0 passes in
      record {
        places = rw (is_0, ← found.place) (refl, end_of_part t _ start end found.ordered found.within found.part);
        part = rw is_0 (found.within, found.part);
      }

  pub finds_refused : (lookup_answer c t ≡ 0 → ⊥) → Finds 0 0
  unfolding lookup lookup_start
  finds_refused some =
      let not_0 = ne_eqb (lookup_answer c t) 0 some in
      record { places = rw not_0 (refl, refl); part = rw not_0 (omega arith, refl) }
