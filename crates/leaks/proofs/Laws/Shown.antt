-- Document 01's lookup hands a leak's record back at its witness.
use Rattle.std.specs.Prelude.{ℕ, zero, suc, ◌≡◌, refl, Bool, true, false, List, [], ◌∷◌, map, get_or}
use Rattle.model.specs.declared.Context.{Context}
use Rattle.model.specs.Layouts.{kind_of, mapping_kind}
use Rattle.model.specs.Mappings.{mapping}
use Rattle.model.specs.Tables.{limit, joined, records, only}
use Rattle.model.specs.Answers.{first, table_grounds}
use Rattle.model.specs.Lookups.{usable, usable_records, lookup_answer, lookup}
use Rattle.laws.specs.Lists.{Every, none, more}
use Rattle.laws.specs.Mappings.{Valid}
use Rattle.laws.specs.Tables.{records_joined, joined_whole}
use Rattle.laws.specs.Events.{creation_valid}
use Rattle.laws.specs.Answers.{OfWidth, valid_table_made, table_grounds_whole, accepted_parts}
use Rattle.roomy_runs.specs.Books.{roomy_answer}
use Rattle.origins.proofs.Laws.Lists.{every_map}
use Rattle.leaks.specs.Moments.{Logged, Moment, accepts, Owned, owned_note, mapping_of, owned_start, owned_of, standing_owned}
use Rattle.leaks.specs.Leaks.{witness}
use Rattle.leaks.specs.Statements.{LookupShows}
use Rattle.leaks.proofs.Laws.Leaks.{accepts_zero}
use Rattle.leaks.proofs.Laws.Exact.{always, ValidAt, valid_always, leaks_exact_holds}

abbrev record_of : Owned → List ℕ
record_of l = l.note.event

-- a record of a list is among those of which a test holds, if the test holds of it
member : (xs : List Owned) → Every (λ l. (p : List ℕ → Bool) → p (record_of l) ≡ true → (k : ℕ) × (get_or (only p (map record_of xs)) k [] ≡ record_of l)) xs
unfolding only
member [] = none
member (x ∷ xs) = more here (every_map xs (λ l f p h. shift p l (p (record_of x)) refl (f p h)) (member xs))
  where
    here : (p : List ℕ → Bool) → p (record_of x) ≡ true → (k : ℕ) × (get_or (only p (record_of x ∷ map record_of xs)) k [] ≡ record_of x)
    here p h = (0, rw h)

    shift : (p : List ℕ → Bool) (l : Owned) (b : Bool) → p (record_of x) ≡ b → (k : ℕ) × (get_or (only p (map record_of xs)) k [] ≡ record_of l)
        → (k : ℕ) × (get_or (only p (record_of x ∷ map record_of xs)) k [] ≡ record_of l)
    shift p l true is found = (suc found.0, rw is found.1)
    shift p l false is found = (found.0, rw is found.1)

every_both : {P Q : Owned → Type 0} (xs : List Owned) → Every P xs → Every Q xs → Every (λ l. P l × Q l) xs
every_both [] none none = none
every_both (x ∷ xs) (more p ps) (more q qs) = more (p, q) (every_both xs ps qs)

every_record : {P : List ℕ → Type 0} (xs : List Owned) → Every (λ l. P (record_of l)) xs → Every P (map record_of xs)
every_record [] none = none
every_record (x ∷ xs) (more p ps) = more p (every_record xs ps)

-- each standing record is one whole record
whole_made : (m : Moment) (e : Logged) → accepts m e ≡ true → mapping_kind (kind_of e.bytes) ≡ true → Valid (record_of (owned_note m e))
unfolding owned_note roomy_answer
whole_made m e h known = creation_valid m.context.linear_width e.bytes (accepted_parts m.context [] e.bytes limit (accepts_zero m e h)).valid known

whole_always : (c : Context) (es : List Logged) → Every (λ l. Valid (record_of l)) (standing_owned (owned_of (owned_start c) es).notes)
whole_always c es = always (λ m l. Valid (record_of l)) (λ m e h l k out. k) whole_made (λ m e h l k. k) c es

of_width_at : (m : Moment) (l : Owned) → ValidAt m l → OfWidth m.context.linear_width (record_of l)
unfolding mapping
of_width_at m l k = rw k.width

pub lookup_shows_holds : LookupShows
unfolding lookup lookup_answer usable_records first
lookup_shows_holds c es fits short =
    let d = owned_of (owned_start c) es in
    let rs = map record_of (standing_owned d.notes) in
    let w = d.now.context.linear_width in
    let valid = every_record (standing_owned d.notes) (whole_always c es) in
    let same : records (joined rs) ≡ rs = records_joined valid in
    let widths : Every (OfWidth w) (records (joined rs)) = rw same (every_record (standing_owned d.notes) (every_map (standing_owned d.notes) (of_width_at d.now) (valid_always c es))) in
    let passes : first (table_grounds d.now.context (joined rs)) ≡ 0 = rw (table_grounds_whole d.now.context (joined rs) (valid_table_made w (joined rs) (joined_whole valid) widths) short, fits) in
    every_map (standing_owned d.notes)
    (λ l k leak.
    let at = k.1 (λ r. usable d.now.context (witness d.now.context (mapping_of l)) (mapping r)) (k.0.shown leak) in
    (at.0, rw (passes, same) at.1))
    (every_both (standing_owned d.notes) (leaks_exact_holds c es) (member (standing_owned d.notes)))
