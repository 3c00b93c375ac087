-- Bytes compared: two records, and the front of some bytes with a record.
use Rattle.std.specs.Prelude.{ℕ, zero, suc, true, false, List, ◌∷◌, ◌++◌, ◌≡◌, refl, length, take, drop, nat_eq}
use Rattle.std.specs.List.{starts_with}
use Rattle.std.proofs.lemmas.Bool.{false≢true}
use Rattle.std.proofs.lemmas.Bool.Decides.{Decides-eqb}
use Rattle.std.proofs.lemmas.Slice.Eq.{starts_is}
use Rattle.std.proofs.Common.{append_assoc, ap, ap₂, ◌∙◌, arith, take-append-drop, take_at}
use Rattle.std.proofs.Math.Path.{sym}
use Rattle.model.specs.Mappings.{record_length}
use Rattle.model.specs.Tables.{joined, records}
use Rattle.laws.specs.Mappings.{Valid, valid_append}
use Rattle.laws.specs.Tables.{records_cons, joined_records_prefix}
use Rattle.tally_rows.specs.Rows.{same}
use Rattle.tally_rows.proofs.Laws.Compared.{same_refl}

-- two records that are not the same
pub same_false : (a b : List ℕ) → same a b ≡ false → a ≡ b → ⊥
same_false a b h e = false≢true (sym h ∙ ap (same a) (sym e) ∙ same_refl a)

-- bytes that start with a record are it and what is behind it, and no others
pub starts_with_append : (bytes r : List ℕ) → starts_with nat_eq bytes r ≡ true → bytes ≡ r ++ drop (length r) bytes
starts_with_append bytes r h = (starts_is Decides-eqb bytes r (starts_with nat_eq bytes r) refl).0 h

pub append_starts_with : (r s : List ℕ) → starts_with nat_eq (r ++ s) r ≡ true
append_starts_with r s = (starts_is Decides-eqb (r ++ s) r (starts_with nat_eq (r ++ s) r) refl).1 s refl

-- bytes that start with a valid record have it as their first; and they start with their first record
module _ (bytes l : List ℕ) (valid : Valid l) (h : starts_with nat_eq bytes l ≡ true) where
  pub record_length_starts_with : record_length bytes ≡ length l
  record_length_starts_with = ap record_length (starts_with_append bytes l h) ∙ valid_append l (drop (length l) bytes) valid

  pub records_starts_with : records bytes ≡ l ∷ records (drop (length l) bytes)
  records_starts_with = go (length l) refl
    where
      go : (n : ℕ) → length l ≡ n → records bytes ≡ l ∷ records (drop (length l) bytes)
      go zero e = absurd (omega (arith, valid.filled))
      go (suc n) e =
          records_cons bytes n (record_length_starts_with ∙ e)
          ∙ ap₂ (λ r m. r ∷ records (drop m bytes)) (ap (take (suc n)) (starts_with_append bytes l h) ∙ take_at l (drop (length l) bytes) (suc n) e) (sym e)

pub starts_with_first : (bytes r : List ℕ) (rs : List (List ℕ)) → records bytes ≡ r ∷ rs → starts_with nat_eq bytes r ≡ true
unfolding joined
starts_with_first bytes r rs is =
    let n = length (joined (records bytes)) in
    let front : take n bytes ≡ r ++ joined rs = joined_records_prefix bytes ∙ ap joined is in
    let all : bytes ≡ r ++ (joined rs ++ drop n bytes) = sym (take-append-drop n bytes) ∙ ap (λ f. f ++ drop n bytes) front ∙ append_assoc r (joined rs) (drop n bytes) in
    ap (λ b. starts_with nat_eq b r) all ∙ append_starts_with r (joined rs ++ drop n bytes)
