-- What the record of a sound translation is worth.
use Rattle.std.specs.Prelude.{ℕ, ◌*◌, ◌/◌, ◌%◌, ◌^◌, ◌≤◌, ◌<◌, Bool, false, Result, Ok, ◌&&◌, ◌||◌, ◌≡◌, length}
use Rattle.std.proofs.Math.Bool.{true, cond, not, and-eq-true_iff}
use mathlib.Core.List.{List, [], ◌∷◌, ◌++◌}
use Rattle.std.proofs.Math.Path.{refl, sym, ap, subst}
use Rattle.std.proofs.Common.{◌∙◌, div-mul-le_self, arith, pow_pos}
use Rattle.std.proofs.Math.Nat.{mul-mod_left, mul-div_cancel}
use borrow.Author.Tests.{eq-eqb, le-leb, lt-ltb, leb-true}
use Rattle.std.proofs.Math.Dec.{eqb}
use Rattle.model.specs.declared.Context.{Context}
use Rattle.model.specs.declared.Mapping.{Mapping}
use Rattle.model.specs.declared.Event.TheVariants.{Creation}
use Rattle.model.specs.declared.Address.TheVariants.{Linear}
use Rattle.model.specs.Bits.{number, bytes}
use Rattle.model.specs.Context.{in_range, current_vpid, current_ept}
use Rattle.model.specs.Layouts.{kind_of, mapping_kind, event_kind, body_of, length_of, field}
use Rattle.model.specs.Mappings.{pages, mapping, linear, guest_physical, combined, structure_cache, wide, other_width, global_marked, covers, fields_in_range}
use Rattle.model.specs.Tables.{limit, only}
use Rattle.model.specs.Events.{canonical, page_of, event, event_in_range, valid_event}
use Rattle.model.specs.Scopes.{ep4ta_of, is_current_ep4ta}
use Rattle.model.specs.Answers.{first, eptp_rule, invalid_opcode, exits, general_protection, creatable, own_ground, valid_table, no_room, event_answer, table_grounds, answer}
use Rattle.model.specs.Lookups.{translates_linear, usable, usable_records, lookup_answer, lookup}
use Rattle.laws.specs.Lists.{every_one}
use Rattle.laws.specs.Buffers.{number_bytes}
use Rattle.laws.specs.Context.{in_range_parts}
use Rattle.laws.specs.Mappings.{Valid, starts_made, valid_made}
use Rattle.laws.specs.Tables.{only_true, records_one, whole_one}
use Rattle.laws.specs.Events.{event_creation}
use Rattle.laws.specs.Answers.{answer_of_room, event_answer_own, table_grounds_in_range, stored_passes, valid_table_made}
use Rattle.walks.specs.declared.Translation.{Translation}
use Rattle.walks.specs.declared.Ground.TheVariants.{ContextOutOfRange, BadEptp, NotCanonical}
use Rattle.walks.specs.declared.Stopped.{Stopped}
use Rattle.walks.specs.declared.Found.{Found}
use Rattle.walks.specs.Walks.{Memory, stopped, ending_of, combined_record, record_of, walk_in, walk_of}
use Rattle.walks.specs.Theorem.{combined_mapping, Entered, Cacheable, WalkCacheable}
use Rattle.walks.proofs.Laws.Bounds.{Sound, SoundEnding, walk_in_ends}

both : {a b : Bool} → a ≡ true → b ≡ true → (a && b) ≡ true
both p q = (and-eq-true_iff _ _).1 (p, q)

-- the record's kind and length
module _ (vpid pcid ep4ta : ℕ) (t : Translation) where
  pub kind_of_record : kind_of (combined_record vpid pcid ep4ta t) ≡ 3
  unfolding kind_of combined_record bytes
  kind_of_record = refl

  pub length_of_record : length (combined_record vpid pcid ep4ta t) ≡ 22
  unfolding combined_record bytes
  length_of_record = refl

-- numbers of one, two and five bytes, read back
one_byte : (x : ℕ) → x < 256 → number 1 0 (bytes 1 x ++ []) ≡ x
one_byte x h = number_bytes 0 x h [] [] 0 refl

two_bytes : (x : ℕ) → x < 65536 → number 2 0 (bytes 2 x ++ []) ≡ x
two_bytes x h = number_bytes 1 x h [] [] 0 refl

five_bytes : (x : ℕ) → x < 1099511627776 → number 5 0 (bytes 5 x ++ []) ≡ x
five_bytes x h = number_bytes 4 x h [] [] 0 refl

module _ (vpid pcid ep4ta : ℕ) (t : Translation) (vpid_fits : vpid ≤ 65535) (pcid_fits : pcid ≤ 4095) (ep4ta_fits : ep4ta < 2 ^ 40)
    (global_fits : t.global ≤ 1) (span_fits : t.span ≤ 2) (page_fits : t.page < 2 ^ 36) (frame_fits : t.frame < 2 ^ 40) where
  -- what it says
  pub mapping_of_record : mapping (combined_record vpid pcid ep4ta t) ≡ combined_mapping vpid pcid ep4ta t
  unfolding mapping field kind_of body_of combined_record bytes
  mapping_of_record =
      let v = two_bytes vpid (omega arith) in
      let p = two_bytes pcid (omega arith) in
      let g = one_byte t.global (omega arith) in
      let s = one_byte t.span (omega arith) in
      let a = five_bytes t.page (omega arith) in
      let f = five_bytes t.frame frame_fits in
      let e = five_bytes ep4ta ep4ta_fits in
      λ i. record { kind = 3; vpid = v i; pcid = p i; global = g i; span = s i; page = a i; frame = f i; ep4ta = e i }

  -- its fields are in their ranges
  pub fields_of_record : t.page % pages t.span ≡ 0 → fields_in_range (mapping (combined_record vpid pcid ep4ta t)) ≡ true
  unfolding fields_in_range structure_cache wide
  fields_of_record multiple =
      ap fields_in_range mapping_of_record
      ∙ both (both (both (le-leb t.global 1 global_fits) (le-leb pcid 4095 pcid_fits)) (le-leb t.span 2 span_fits))
      (both (lt-ltb t.page (2 ^ 36) page_fits) (eq-eqb (t.page % pages t.span) 0 multiple))

-- ---- the page of a sound translation

module _ (address : ℕ) (t : Translation) (sound : Sound address t) where
  page_below : t.page < 2 ^ 36
  page_below = omega (arith, sound.page, div-mul-le_self (page_of 48 address) (pages t.span))

  page_multiple : t.page % pages t.span ≡ 0
  page_multiple = rw sound.page (mul-mod_left (page_of 48 address / pages t.span) (pages t.span))

  page_covers : covers t.span t.page (page_of 48 address) ≡ true
  unfolding covers
  page_covers =
      eq-eqb (page_of 48 address / pages t.span) (t.page / pages t.span)
      (sym (ap (λ p. p / pages t.span) sound.page ∙ mul-div_cancel (page_of 48 address / pages t.span) (pow_pos (9 * t.span))))

-- ---- what a sound translation's record is worth in a context in its ranges

module _ (c : Context) (vpid ep4ta address : ℕ) (t : Translation) (sound : Sound address t) (fits : in_range c ≡ true)
    (low : canonical 48 address ≡ true) (vpid_fits : vpid ≤ 65535) (ep4ta_fits : ep4ta < 2 ^ 40) where
  r : List ℕ
  r = combined_record vpid c.pcid ep4ta t

  m : Mapping
  m = combined_mapping vpid c.pcid ep4ta t

  pcid_fits : c.pcid ≤ 4095
  pcid_fits = leb-true c.pcid 4095 (in_range_parts c fits).pcid

  says : mapping r ≡ m
  unfolding r m
  says = mapping_of_record vpid c.pcid ep4ta t vpid_fits pcid_fits ep4ta_fits sound.global sound.span (page_below address t sound) sound.frame

  fields : fields_in_range (mapping r) ≡ true
  unfolding r
  fields = fields_of_record vpid c.pcid ep4ta t vpid_fits pcid_fits ep4ta_fits sound.global sound.span (page_below address t sound) sound.frame (page_multiple address t sound)

  kind : kind_of r ≡ 3
  unfolding r
  kind = kind_of_record vpid c.pcid ep4ta t

  size : length r ≡ 22
  unfolding r
  size = length_of_record vpid c.pcid ep4ta t

  valid : Valid r
  unfolding mapping_kind body_of length_of
  valid =
      let long : length_of (kind_of r) ≡ 22 = ap length_of kind in
      valid_made r
      (starts_made r (record { held = record { known = ap mapping_kind kind; fits = omega (arith, size) }; fields = fields }))
      (size ∙ sym long)

  -- the record is a table of the width 48
  stands : valid_table 48 r ≡ true
  unfolding other_width wide
  stands = valid_table_made 48 r (whole_one r valid) (rw (records_one r valid) (every_one (ap (λ k. not (other_width 48 k)) kind)))

  -- the event that it is: a creation
  is_creation : event r ≡ Creation m
  unfolding mapping_kind
  is_creation = event_creation r (ap mapping_kind kind) ∙ ap Creation says

  is_event : valid_event 48 r ≡ true
  unfolding m mapping_kind valid_event event_kind length_of body_of event_in_range other_width wide
  is_event =
      both (both (ap event_kind kind) (eq-eqb (length r) (length_of (kind_of r)) (size ∙ sym (ap length_of kind))))
      (ap (event_in_range 48) (event_creation r (ap mapping_kind kind))
      ∙ both fields (ap (λ x. not (other_width 48 x.kind)) says))

  module _ (entered : Entered c vpid ep4ta) where
    same_vpid : eqb vpid (current_vpid c.place) ≡ true
    same_vpid = eq-eqb vpid (current_vpid c.place) (sym (ap current_vpid entered.place))

    same_ep4ta : is_current_ep4ta (current_ept c.place) ep4ta ≡ true
    same_ep4ta = ap (λ p. is_current_ep4ta (current_ept p) ep4ta) entered.place ∙ eq-eqb ep4ta ep4ta refl

    -- it can be created here, and no other ground applies
    can_create : creatable c m ≡ true
    unfolding creatable linear guest_physical combined m
    can_create = both (both same_ep4ta same_vpid) (eq-eqb c.pcid c.pcid refl)

    no_ground : event_answer c (event r) ≡ 0
    unfolding own_ground invalid_opcode exits general_protection m
    no_ground = ap (event_answer c) is_creation ∙ event_answer_own c (Creation m) ∙ ap (λ b. cond (not b) 11 0) can_create

    accepted : (table : List ℕ) (room : ℕ) → valid_table 48 table ≡ true → length table ≤ limit → no_room room table r ≡ false
        → answer c table r room ≡ 0
    accepted table room good short enough =
        let at_width : valid_table c.linear_width table ≡ true = subst (λ w. valid_table w table ≡ true) (sym entered.narrow) good in
        let passes = table_grounds_in_range c table fits ∙ stored_passes c.linear_width table at_width short in
        let is_valid : valid_event c.linear_width r ≡ true = subst (λ w. valid_event w r ≡ true) (sym entered.narrow) is_event in
        answer_of_room c table r room passes is_valid no_ground ∙ ap (λ b. cond b 12 0) enough

    -- the address shows it
    is_usable : usable c (Linear address) (mapping r) ≡ true
    unfolding usable translates_linear combined m
    is_usable =
        ap (usable c (Linear address)) says
        ∙ both
        (both
        (both
        (both (subst (λ w. canonical w address ≡ true) (sym entered.narrow) low)
        (subst (λ w. covers t.span t.page (page_of w address) ≡ true) (sym entered.narrow) (page_covers address t sound)))
        same_vpid)
        (ap (λ b. b || (global_marked 3 && eqb t.global 1)) (eq-eqb c.pcid c.pcid refl)))
        (ap (λ p. translates_linear (current_ept p) m) entered.place ∙ eq-eqb ep4ta ep4ta refl)

    shown : usable_records c (Linear address) r ≡ r ∷ []
    unfolding usable_records only
    shown = rw (records_one r valid) (only_true (λ r. usable c (Linear address) (mapping r)) r [] is_usable)

    looked_up : lookup c (Linear address) r 0 ≡ r
    unfolding lookup lookup_answer
    looked_up =
        let at_width : valid_table c.linear_width r ≡ true = subst (λ w. valid_table w r ≡ true) (sym entered.narrow) stands in
        let passes : first (table_grounds c r) ≡ 0 = table_grounds_in_range c r fits ∙ stored_passes c.linear_width r at_width (omega (arith, size)) in
        rw (passes, shown)

  cacheable : Cacheable c vpid ep4ta address t r
  unfolding m
  cacheable =
      record { size = size; valid = valid; says = says; accepted = accepted; shown = shown; looked_up = looked_up }

-- ---- the theorem

-- a walk that translates was of a context in its ranges, and of a canonical address
translated_asks : (mem : Memory) (c : Context) (root eptp address : ℕ) (t : Translation) → ending_of (walk_in mem c root eptp address) ≡ Ok t
    → (in_range c ≡ true) × (canonical 48 address ≡ true)
unfolding walk_in
translated_asks mem c root eptp address t is = go (in_range c) (eqb (eptp_rule c eptp) 0) (canonical 48 address) _ is
  where
    go : (fits good low : Bool) (w : Result Found Stopped)
        → ending_of (cond (not fits) (stopped ContextOutOfRange 0) (cond (not good) (stopped (BadEptp (eptp_rule c eptp)) 0) (cond (not low) (stopped NotCanonical 0) w))) ≡ Ok t
        → (fits ≡ true) × (low ≡ true)
    go false good low w h = cc
    go true false low w h = cc
    go true true false w h = cc
    go true true true w h = (refl, refl)

pub walk_cacheable_holds : WalkCacheable
unfolding walk_of record_of r
walk_cacheable_holds mem c root eptp vpid address t vpid_fits is =
    let asked = translated_asks mem c root eptp address t is in
    let sound = subst (SoundEnding address) is (walk_in_ends mem c root eptp address).sound in
    subst (λ e. Cacheable c vpid (ep4ta_of eptp) address t (record_of vpid c.pcid (ep4ta_of eptp) e)) (sym is)
    (cacheable c vpid (ep4ta_of eptp) address t sound asked.0 asked.1 vpid_fits (omega arith))
