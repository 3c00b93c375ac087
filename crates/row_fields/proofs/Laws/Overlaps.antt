-- The record of a mapping written in six numbers that overlap: what a number leaves too much is written over by the next.
use Rattle.std.specs.Prelude.{ℕ, zero, suc, ◌+◌, ◌-◌, ◌*◌, ◌/◌, ◌%◌, ◌^◌, ◌≤◌, ◌<◌, Bool, ◌≡◌, leb, take, drop}
use Rattle.std.proofs.Math.Bool.{true, false, cond}
use mathlib.Core.List.{List, [], ◌∷◌, ◌++◌, append_assoc, append-nil}
use Rattle.std.proofs.Math.Path.{refl, ap}
use Rattle.std.proofs.Common.{sym, ap₂, ◌∙◌, arith, mul_assoc, length-drop, take-append-drop, take_at, drop_at, take-add, length-take-le, drop-drop}
use borrow.Author.Tests.{eqb-true, leb-true}
use Rattle.std.proofs.Math.Dec.{eqb}
use Rattle.std.proofs.Math.ListN.{length, length-append}
use Rattle.model.specs.declared.Mapping.{Mapping}
use Rattle.model.specs.Bits.{bytes}
use Rattle.model.specs.Buffers.{put}
use Rattle.model.specs.Layouts.{Field, mapping_kind, body_of, length_of, width_in}
use Rattle.model.specs.Mappings.{guest_physical, linear, combined, structure_cache, wide, global_marked}
use Rattle.laws.specs.Layouts.{of_mapping_kind, mapping_kind_le}
use Rattle.laws.specs.Buffers.{length_bytes, length_put_least, drop_put, put_split, put_put}
use Rattle.kinds.specs.Places.{place_of}
use Rattle.row_fields.specs.Rows.{record_of, fits}
use Rattle.row_fields.specs.Pieces.{tags_at, places_at, last_at, tags_of, last_of, Small, tags_number, last_number}
use Rattle.row_fields.proofs.Laws.Records.{record_pieces, each, below}

-- ---- numbers of several bytes

-- one number above another is the bytes of both
pub bytes_joined : (n m x y : ℕ) → x < 256 ^ n → bytes (n + m) (x + 256 ^ n * y) ≡ bytes n x ++ bytes m y
unfolding bytes
bytes_joined zero m x y small =
    let none : 0 + m ≡ m = omega arith in
    let same : x + 256 ^ 0 * y ≡ y = omega arith in
    rw (none, same)
bytes_joined (suc n) m x y small =
    let size : suc n + m ≡ suc (n + m) = omega arith in
    let power : 256 ^ suc n ≡ 256 * 256 ^ n = omega arith in
    let above : 256 ^ suc n * y ≡ 256 * (256 ^ n * y) = ap (λ (k : ℕ). k * y) power ∙ mul_assoc 256 (256 ^ n) y in
    let low : (x + 256 ^ suc n * y) % 256 ≡ x % 256 = omega arith in
    let high : (x + 256 ^ suc n * y) / 256 ≡ x / 256 + 256 ^ n * y = omega arith in
    rw (size, low, high) (ap (λ (xs : List ℕ). x % 256 ∷ xs) (bytes_joined n m (x / 256) y (omega arith)))

-- the front of a number's bytes
pub take_bytes : (n m x : ℕ) → n ≤ m → take n (bytes m x) ≡ bytes n x
unfolding bytes
take_bytes zero m x fits = refl
take_bytes (suc n) zero x fits = absurd (omega arith)
take_bytes (suc n) (suc m) x fits = ap (λ (xs : List ℕ). x % 256 ∷ xs) (take_bytes n m (x / 256) (omega arith))

-- and behind other bytes
take_behind : (xs : List ℕ) (n k x : ℕ) → k ≤ n → take (length xs + k) (xs ++ bytes n x) ≡ xs ++ bytes k x
take_behind xs n k x fits =
    rw (take-add (length xs) k (xs ++ bytes n x), take_at xs (bytes n x) (length xs) refl, drop_at xs (bytes n x) (length xs) refl, take_bytes k n x fits)

-- a number of five bytes as eight
padded : (x : ℕ) → x < 1099511627776 → bytes 8 x ≡ bytes 5 x ++ bytes 3 0
padded x fits = let same : x ≡ x + 256 ^ 5 * 0 = omega arith in ap (bytes 8) same ∙ bytes_joined 5 3 x 0 fits

-- ---- bytes put over others

-- at the same position, as many or more
put_again : (at : ℕ) (xs ys b : List ℕ) → at ≤ length b → length xs ≤ length ys → put at ys (put at xs b) ≡ put at ys b
put_again at xs ys b fits more =
    let front : take at (put at xs b) ≡ take at b = rw (put_split at xs b) (take_at (take at b) (xs ++ drop (length xs) (drop at b)) at (length-take-le at b fits)) in
    let far : at + length ys ≡ at + length xs + (length ys - length xs) = omega arith in
    let rest : drop (at + length ys) (put at xs b) ≡ drop (at + length ys) b =
    rw (far, ← (drop-drop (length ys - length xs) (at + length xs) (put at xs b)), drop_put at xs b fits, drop-drop (length ys - length xs) (at + length xs) b) in
    rw (put_split at ys (put at xs b), put_split at ys b, front, drop-drop (length ys) at (put at xs b), drop-drop (length ys) at b, rest)

-- further on, up to their end or beyond
pub put_over : (at n : ℕ) (xs ys b : List ℕ) → at + n ≤ length b → n ≤ length xs → length xs ≤ n + length ys → put (at + n) ys (put at xs b) ≡ put at (take n xs ++ ys) b
put_over at n xs ys b fits inside beyond =
    let front : length (take n xs) ≡ n = length-take-le n xs inside in
    let split : put at xs b ≡ put (at + n) (drop n xs) (put at (take n xs) b) =
    sym (rw (take-append-drop n xs, front) at (put_put at (take n xs) (drop n xs) b (omega arith))) in
    let over = put_again (at + n) (drop n xs) ys (put at (take n xs) b) (omega (arith, length_put_least at (take n xs) b)) (omega (arith, length-drop n xs)) in
    let joined = rw front at (put_put at (take n xs) ys b (omega arith)) in
    ap (λ (c : List ℕ). put (at + n) ys c) split ∙ over ∙ joined

-- ---- the places of span and frame, and the end, by kind
module _ (k : ℕ) (known : mapping_kind k ≡ true) where
  pub span_place : place_of Field.span k ≡ 1 + cond (guest_physical k) 5 (cond (global_marked k) 5 4)
  unfolding place_of body_of guest_physical linear combined structure_cache global_marked
  span_place = eqb-true _ _ (of_mapping_kind (λ k. eqb (place_of Field.span k) (1 + cond (guest_physical k) 5 (cond (global_marked k) 5 4))) refl k known)

  pub frame_place : place_of Field.frame k ≡ place_of Field.span k + (1 + cond (wide k) 6 5)
  unfolding place_of body_of wide
  frame_place = eqb-true _ _ (of_mapping_kind (λ k. eqb (place_of Field.frame k) (place_of Field.span k + (1 + cond (wide k) 6 5))) refl k known)

  pub end_place : length_of k ≡ place_of Field.frame k + (5 + cond (combined k) 5 0)
  unfolding place_of body_of length_of combined
  end_place = eqb-true _ _ (of_mapping_kind (λ k. eqb (length_of k) (place_of Field.frame k + (5 + cond (combined k) 5 0))) refl k known)

-- they lie within the record, with the bytes that are written there; of the frame's eight, all but three
pub record Within (k : ℕ) : Type 0 where
  pub span : place_of Field.span k + 9 ≤ length_of k
  pub frame : place_of Field.frame k + 5 ≤ length_of k
  pub most : length_of k ≤ 23

pub within : (k : ℕ) → mapping_kind k ≡ true → Within k
unfolding place_of body_of length_of
within k known =
    record {
      span = leb-true _ _ (of_mapping_kind (λ k. leb (place_of Field.span k + 9) (length_of k)) refl k known);
      frame = leb-true _ _ (of_mapping_kind (λ k. leb (place_of Field.frame k + 5) (length_of k)) refl k known);
      most = leb-true _ _ (of_mapping_kind (λ k. leb (length_of k) 23) refl k known);
    }

-- ---- the six numbers
module _ (m : Mapping) (known : mapping_kind m.kind ≡ true) (small : Small m) where
  -- where span and frame stand; how many bytes the tags have, and the page
  abbrev p : ℕ
  p = place_of Field.span m.kind

  abbrev f : ℕ
  f = place_of Field.frame m.kind

  abbrev t : ℕ
  t = cond (guest_physical m.kind) 5 (cond (global_marked m.kind) 5 4)

  abbrev w : ℕ
  w = cond (wide m.kind) 6 5

  tags_most : (4 ≤ t) × (t ≤ 5)
  tags_most = go (guest_physical m.kind) (global_marked m.kind)
    where
      go : (g k : Bool) → (4 ≤ cond g 5 (cond k 5 4)) × (cond g 5 (cond k 5 4) ≤ 5)
      go true k = (omega arith, omega arith)
      go false true = (omega arith, omega arith)
      go false false = (omega arith, omega arith)

  page_most : (5 ≤ w) × (w ≤ 6)
  page_most = go (wide m.kind)
    where
      go : (w : Bool) → (5 ≤ cond w 6 5) × (cond w 6 5 ≤ 6)
      go true = (omega arith, omega arith)
      go false = (omega arith, omega arith)

  -- the tags as one number
  tags_as : m.vpid + 65536 * m.pcid + 4294967296 * m.global ≡ m.vpid + 256 ^ 2 * (m.pcid + 256 ^ 2 * m.global)
  tags_as = omega arith

  tags_bytes : bytes t (tags_number m) ≡ tags_of m
  unfolding tags_at bytes
  tags_bytes = go (guest_physical m.kind) (global_marked m.kind)
    where
      go : (g k : Bool)
          → bytes (cond g 5 (cond k 5 4)) (cond g m.ep4ta (m.vpid + 65536 * m.pcid + 4294967296 * m.global))
          ≡ cond g (bytes 5 m.ep4ta) (bytes 2 m.vpid ++ (bytes 2 m.pcid ++ cond k (bytes 1 m.global) []))
      go true k = refl
      go false true =
          ap (bytes 5) tags_as
          ∙ bytes_joined 2 3 m.vpid (m.pcid + 256 ^ 2 * m.global) small.vpid
          ∙ ap (λ (xs : List ℕ). bytes 2 m.vpid ++ xs) (bytes_joined 2 1 m.pcid m.global small.pcid)
      go false false =
          ap (bytes 4) tags_as
          ∙ bytes_joined 2 2 m.vpid (m.pcid + 256 ^ 2 * m.global) small.vpid
          ∙ ap (λ (xs : List ℕ). bytes 2 m.vpid ++ xs) (bytes_joined 2 0 m.pcid m.global small.pcid)

  -- what stands before the frame: kind and tags, span and page
  abbrev first : List ℕ
  first = bytes 1 m.kind ++ bytes t (tags_number m)

  abbrev before : List ℕ
  before = first ++ (bytes 1 m.span ++ bytes w m.page)

  length_first : length first ≡ p
  length_first =
      omega (arith, length-append (bytes 1 m.kind) (bytes t (tags_number m)), length_bytes 1 m.kind, length_bytes t (tags_number m), span_place m.kind known)

  length_before : length before ≡ f
  length_before =
      let page = bytes 1 m.span ++ bytes w m.page in
      omega (arith, length-append first page, length_first, length-append (bytes 1 m.span) (bytes w m.page), length_bytes 1 m.span, length_bytes w m.page, frame_place m.kind known)

  -- the record, with three zeros behind it
  whole : before ++ ((bytes 5 m.frame ++ last_of m) ++ bytes 3 0) ≡ record_of m ++ bytes 3 0
  unfolding places_at
  whole = rw (tags_bytes, record_pieces m known) (simp append_assoc)

  module _ (at : ℕ) (b : List ℕ) (room : at + length_of m.kind + 3 ≤ length b) where
    -- kind and tags
    one_two : put (at + 1) (bytes 8 (tags_number m)) (put at (bytes 1 m.kind) b) ≡ put at (bytes 1 m.kind ++ bytes 8 (tags_number m)) b
    one_two = rw (length_bytes 1 m.kind) at (put_put at (bytes 1 m.kind) (bytes 8 (tags_number m)) b (omega arith))

    -- span and page behind each other
    three_four : (b : List ℕ) → at + p ≤ length b
        → put (at + p + 1) (bytes 8 m.page) (put (at + p) (bytes 1 m.span) b) ≡ put (at + p) (bytes 1 m.span ++ bytes 8 m.page) b
    three_four b fits = rw (length_bytes 1 m.span) at (put_put (at + p) (bytes 1 m.span) (bytes 8 m.page) b fits)

    -- these over what is too much of the tags
    abbrev page : List ℕ
    page = bytes 1 m.span ++ bytes 8 m.page

    length_page : length page ≡ 9
    length_page = omega (arith, length-append (bytes 1 m.span) (bytes 8 m.page), length_bytes 1 m.span, length_bytes 8 m.page)

    over_tags : put (at + p) page (put at (bytes 1 m.kind ++ bytes 8 (tags_number m)) b) ≡ put at (first ++ page) b
    over_tags =
        let all = bytes 1 m.kind ++ bytes 8 (tags_number m) in
        let long : length all ≡ 9 = omega (arith, length-append (bytes 1 m.kind) (bytes 8 (tags_number m)), length_bytes 1 m.kind, length_bytes 8 (tags_number m)) in
        let place : p ≡ length (bytes 1 m.kind) + t = omega (arith, span_place m.kind known, length_bytes 1 m.kind) in
        let cut : take p all ≡ first = rw place (take_behind (bytes 1 m.kind) 8 t (tags_number m) (omega (arith, tags_most))) in
        rw (← cut)
        (put_over at p all page b
        (omega (arith, within m.kind known))
        (omega (arith, long, span_place m.kind known, tags_most))
        (omega (arith, long, length_page)))

    -- the frame over what is too much of the page
    over_page : put (at + f) (bytes 8 m.frame) (put at (first ++ page) b) ≡ put at (before ++ bytes 8 m.frame) b
    over_page =
        let long : length (first ++ page) ≡ p + 9 = omega (arith, length-append first page, length_first, length_page) in
        let span = first ++ bytes 1 m.span in
        let place : f ≡ length span + w = omega (arith, length-append first (bytes 1 m.span), length_first, length_bytes 1 m.span, frame_place m.kind known) in
        let cut : take f (first ++ page) ≡ before =
        ap (take f) (sym (append_assoc first (bytes 1 m.span) (bytes 8 m.page)))
        ∙ rw place (take_behind span 8 w m.page (omega (arith, page_most)))
        ∙ append_assoc first (bytes 1 m.span) (bytes w m.page) in
        rw (← cut)
        (put_over at f (first ++ page) (bytes 8 m.frame) b
        (omega (arith, within m.kind known))
        (omega (arith, long, page_most, frame_place m.kind known))
        (omega (arith, long, page_most, frame_place m.kind known, length_bytes 8 m.frame)))

    -- the last five bytes with three zeros: the frame again, or the EP4TA behind it
    over_frame : put (at + (length_of m.kind - 5)) (bytes 8 (last_number m)) (put at (before ++ bytes 8 m.frame) b) ≡ put at (before ++ ((bytes 5 m.frame ++ last_of m) ++ bytes 3 0)) b
    unfolding last_at
    over_frame = go (combined m.kind) (end_place m.kind known)
      where
        long : length (before ++ bytes 8 m.frame) ≡ f + 8
        long = omega (arith, length-append before (bytes 8 m.frame), length_before, length_bytes 8 m.frame)

        go : (c : Bool) → length_of m.kind ≡ f + (5 + cond c 5 0)
            → put (at + (length_of m.kind - 5)) (bytes 8 (cond c m.ep4ta m.frame)) (put at (before ++ bytes 8 m.frame) b)
            ≡ put at (before ++ ((bytes 5 m.frame ++ cond c (bytes 5 m.ep4ta) []) ++ bytes 3 0)) b
        go true ends =
            let place : length_of m.kind - 5 ≡ f + 5 = omega arith in
            let cut : take (f + 5) (before ++ bytes 8 m.frame) ≡ before ++ bytes 5 m.frame =
            rw length_before at (take_behind before 8 5 m.frame (omega arith)) in
            rw place
            (put_over at (f + 5) (before ++ bytes 8 m.frame) (bytes 8 m.ep4ta) b (omega arith) (omega (arith, long)) (omega (arith, long, length_bytes 8 m.ep4ta))
            ∙ ap₂ (λ (xs ys : List ℕ). put at (xs ++ ys) b) cut (padded m.ep4ta small.ep4ta)
            ∙ ap (λ (xs : List ℕ). put at xs b) (simp append_assoc))
        go false ends =
            let place : length_of m.kind - 5 ≡ f = omega arith in
            let cut : take f (before ++ bytes 8 m.frame) ≡ before = take_at before (bytes 8 m.frame) f length_before in
            rw (place, append-nil)
            (put_over at f (before ++ bytes 8 m.frame) (bytes 8 m.frame) b (omega arith) (omega (arith, long)) (omega (arith, long, length_bytes 8 m.frame))
            ∙ ap₂ (λ (xs ys : List ℕ). put at (xs ++ ys) b) cut (padded m.frame small.frame))

    -- what is left of the six
    pub overlapped : {b₁ b₂ b₃ b₄ b₅ b₆ : List ℕ}
        → b₁ ≡ put at (bytes 1 m.kind) b
        → b₂ ≡ put (at + 1) (bytes 8 (tags_number m)) b₁
        → b₃ ≡ put (at + p) (bytes 1 m.span) b₂
        → b₄ ≡ put (at + p + 1) (bytes 8 m.page) b₃
        → b₅ ≡ put (at + f) (bytes 8 m.frame) b₄
        → b₆ ≡ put (at + (length_of m.kind - 5)) (bytes 8 (last_number m)) b₅
        → b₆ ≡ put at (record_of m ++ bytes 3 0) b
    overlapped one two three four five six =
        let tags = bytes 1 m.kind ++ bytes 8 (tags_number m) in
        let fits : at + p ≤ length (put at tags b) = omega (arith, length_put_least at tags b, within m.kind known) in
        six ∙ rw (five, four, three, two, one, one_two, three_four (put at tags b) fits, over_tags, over_page, over_frame) (ap (λ (xs : List ℕ). put at xs b) whole)

-- a mapping whose numbers fit in its record
pub small_of_fits : (m : Mapping) → mapping_kind m.kind ≡ true → fits m ≡ true → Small m
unfolding body_of
small_of_fits m known fit =
    let k = m.kind in
    let one = each m known fit in
    record {
      kind = omega (arith, mapping_kind_le k known);
      vpid = below m Field.vpid 65536 one.vpid (of_mapping_kind (λ k. leb (256 ^ width_in (body_of k) Field.vpid) 65536) refl k known);
      pcid = below m Field.pcid 65536 one.pcid (of_mapping_kind (λ k. leb (256 ^ width_in (body_of k) Field.pcid) 65536) refl k known);
      global = below m Field.global 256 one.global (of_mapping_kind (λ k. leb (256 ^ width_in (body_of k) Field.global) 256) refl k known);
      span = below m Field.span 256 one.span (of_mapping_kind (λ k. leb (256 ^ width_in (body_of k) Field.span) 256) refl k known);
      page = below m Field.page 281474976710656 one.page (of_mapping_kind (λ k. leb (256 ^ width_in (body_of k) Field.page) 281474976710656) refl k known);
      frame = below m Field.frame 1099511627776 one.frame (of_mapping_kind (λ k. leb (256 ^ width_in (body_of k) Field.frame) 1099511627776) refl k known);
      ep4ta = below m Field.ep4ta 1099511627776 one.ep4ta (of_mapping_kind (λ k. leb (256 ^ width_in (body_of k) Field.ep4ta) 1099511627776) refl k known);
    }
