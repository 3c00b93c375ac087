-- Bytes written piece by piece: what is put behind other bytes, and the pieces of a row.
use Rattle.std.specs.Prelude.{ℕ, ◌+◌, ◌≤◌, List, ◌++◌, ◌≡◌, refl, length}
use Rattle.std.proofs.Common.{◌∙◌, arith, length-append}
use Rattle.model.specs.declared.Mapping.{Mapping}
use Rattle.model.specs.Bits.{bytes}
use Rattle.model.specs.Buffers.{put}
use Rattle.laws.specs.Buffers.{length_bytes, put_put}
use Rattle.row_fields.specs.Fields.{written}
use Rattle.row_fields.specs.Rows.{row}

-- bytes are put at a position of a buffer, and end at another
pub record Wrote (at : ℕ) (xs b : List ℕ) (end : ℕ) (b' : List ℕ) : Type 0 where
  pub to : end ≡ at + length xs
  pub made : b' ≡ put at xs b

pub wrote_number : (at n x : ℕ) (b : List ℕ) {end : ℕ} {b' : List ℕ} → (end ≡ at + n) × (b' ≡ put at (bytes n x) b) → Wrote at (bytes n x) b end b'
wrote_number at n x b w = record { to = w.0 ∙ rw (length_bytes n x); made = w.1 }

pub wrote_two : (at n x m y : ℕ) (b : List ℕ) {end : ℕ} {b' : List ℕ} → (end ≡ at + (n + m)) × (b' ≡ put at (bytes n x ++ bytes m y) b)
    → Wrote at (bytes n x ++ bytes m y) b end b'
wrote_two at n x m y b w =
    record { to = omega (arith, w.0, length-append (bytes n x) (bytes m y), length_bytes n x, length_bytes m y); made = w.1 }

-- one piece behind another
pub wrote_behind : {at to end : ℕ} {xs ys b b' b'' : List ℕ} → at ≤ length b → Wrote at xs b to b' → Wrote to ys b' end b'' → Wrote at (xs ++ ys) b end b''
wrote_behind {at} {xs = xs} {ys} {b} fits one two =
    record {
      to = omega (arith, one.to, two.to, length-append xs ys);
      made = two.made ∙ rw (one.to, one.made) (put_put at xs ys b fits);
    }

-- the five pieces of a row
pub row_pieces : (m : Mapping) → row m
    ≡ (((bytes 1 m.kind ++ bytes 1 m.span) ++ (bytes 1 m.global ++ bytes 1 0)) ++ (bytes 2 m.vpid ++ bytes 2 m.pcid)) ++ (bytes 8 m.page ++ bytes 8 m.frame) ++ bytes 8 m.ep4ta
unfolding row written bytes
row_pieces m = refl
