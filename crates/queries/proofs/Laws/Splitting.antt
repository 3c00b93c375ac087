-- Kinds beside a tag that is touched or not, and the kinds of a query by VPID.
use Rattle.std.specs.Prelude.{ℕ, ◌+◌, ◌<◌, Bool, ◌&&◌, ◌||◌, List, ◌≡◌, eqb}
use Rattle.std.proofs.Math.Bool.{true, false, cond, and-true, and_comm, or-true, or-false}
use Rattle.std.proofs.Math.Path.{refl}
use Rattle.std.proofs.Common.{sym, ap, ◌∙◌}
use Rattle.model.specs.Bits.{bit, number}
use Rattle.model.specs.Layouts.{mapping_bodies, mapping_kind}
use Rattle.model.specs.Mappings.{mapping, Held, guest_physical}
use Rattle.laws.specs.Layouts.{at_rows, of_mapping_kind, mapping_kind_below, agrees, agrees_true}
use Rattle.laws.specs.Mappings.{vpid_held}
use Rattle.queries.specs.declared.KindsByVpid.{KindsByVpid}
use Rattle.queries.specs.declared.Query.{Query}
use Rattle.queries.specs.Queries.{touched, query_tests, guest_physical_of, kinds_where, kinds_with, of_kind_and_vpid, Splits}

module _ (k : ℕ) (known : mapping_kind k ≡ true) (kinds : ℕ) where
  -- the guest-physical kinds are 2 and 5
  bit_guest_physical : bit k (guest_physical_of kinds) ≡ (guest_physical k && bit k kinds)
  unfolding guest_physical_of guest_physical
  bit_guest_physical =
      agrees_true _ _
      (of_mapping_kind (λ k. agrees (bit k (guest_physical_of kinds)) (guest_physical k && bit k kinds)) (go (bit 2 kinds) (bit 5 kinds) refl refl) k known)
    where
      go : (a b : Bool) → bit 2 kinds ≡ a → bit 5 kinds ≡ b
          → at_rows (λ k. agrees (bit k (cond a 4 0 + cond b 32 0)) (guest_physical k && bit k kinds)) mapping_bodies ≡ true
      go true true two five = rw (two, five)
      go true false two five = rw (two, five)
      go false true two five = rw (two, five)
      go false false two five = rw (two, five)

  bit_where : (touched : Bool) → bit k (kinds_where touched kinds) ≡ (bit k kinds && (guest_physical k || touched))
  unfolding kinds_where
  bit_where true = rw (or-true, and-true)
  bit_where false = rw or-false (bit_guest_physical ∙ and_comm (guest_physical k) (bit k kinds))

  bit_by : (b same others : Bool)
      → bit k (cond b (kinds_where same kinds) (kinds_where others kinds)) ≡ (bit k kinds && (guest_physical k || cond b same others))
  bit_by true same others = bit_where same
  bit_by false same others = bit_where others

-- of all kinds
pub bit_where_all : (k : ℕ) → mapping_kind k ≡ true → (touched : Bool) → bit k (kinds_where touched 0x7FE) ≡ (guest_physical k || touched)
bit_where_all k known touched =
    bit_where k known 0x7FE touched
    ∙ ap (λ (b : Bool). b && (guest_physical k || touched)) (of_mapping_kind (λ k. bit k 0x7FE) refl k known)

-- what stands beside a test that holds does not count
pub either : (b : Bool) {x y : Bool} → (b ≡ false → x ≡ y) → (b || x) ≡ (b || y)
either true same = refl
either false same = same refl

module _ (r : List ℕ) (held : Held r) where
  pub known_kind : mapping_kind (mapping r).kind ≡ true
  unfolding mapping
  known_kind = held.known

  pub kind_below : (mapping r).kind < 64
  kind_below = mapping_kind_below _ known_kind

  own_vpid : guest_physical (mapping r).kind ≡ false → number 2 1 r ≡ (mapping r).vpid
  own_vpid other = sym (vpid_held r held ∙ rw other)

pub split : (q : Query) (s : KindsByVpid) (r : List ℕ) → Splits q s → Held r
    → of_kind_and_vpid s r ≡ ((query_tests q (mapping r)).kind && (query_tests q (mapping r)).vpid)
split q s r all held = all.same r held

pub splits : (q : Query)
    → Splits q (record { vpid = q.vpid.tag; same = kinds_where q.vpid.same q.kinds; others = kinds_where q.vpid.others q.kinds })
unfolding of_kind_and_vpid kinds_with query_tests touched
splits q =
    record {
      same = λ r held.
          bit_by _ (known_kind r held) q.kinds (eqb (number 2 1 r) q.vpid.tag) q.vpid.same q.vpid.others
          ∙ ap (λ (b : Bool). bit (mapping r).kind q.kinds && b)
          (either (guest_physical (mapping r).kind) (λ other. ap (touched q.vpid) (own_vpid r held other)));
    }
