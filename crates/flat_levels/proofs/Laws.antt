-- What a lookup in two tables finds, as a part from its start and end.
use Rattle.std.specs.Prelude.{ℕ, ◌-◌, List, ◌≡◌, true, length}
use Rattle.std.proofs.Common.{ap, sym, ◌∙◌, arith}
use Rattle.model.specs.declared.Context.{Context}
use Rattle.level_lookups.specs.Levels.{FoundIn, found_in, lookup_levels}
use Rattle.flat_contexts.specs.declared.FlatContext.{FlatContext}
use Rattle.flat_contexts.specs.Contexts.{is_known, unflatten}
use Rattle.flat_levels.specs.Flat.{flat_part, flat_levels_lookup}

pub flat_found : (x : FlatContext) (address : ℕ) (t u : List ℕ) {c : Context} {found : FoundIn} → is_known x ≡ true → c ≡ unflatten x
    → found ≡ found_in c address t u
    → flat_part found.answer found.level found.start found.end ≡ flat_levels_lookup x address t u
unfolding flat_levels_lookup found_in
flat_found x address t u {c = c} {found = found} known is told =
    let start = ap (λ (r : FoundIn). r.start) told in
    let end = ap (λ (r : FoundIn). r.end) told in
    let size : found.end - found.start ≡ length (lookup_levels c address t u) = omega (arith, start, end) in
    rw (known, ← is) (λ i. record { answer = (told i).answer; level = (told i).level; start = start i; length = size i })
