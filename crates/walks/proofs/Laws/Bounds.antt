-- How many entries a walk reads, and what it gives.
use Rattle.std.specs.Prelude.{ℕ, zero, suc, ◌+◌, ◌-◌, ◌*◌, ◌/◌, ◌^◌, ◌≤◌, ◌<◌, Bool, true, false, cond, not, Result, Ok, Err, ◌≡◌, refl, eqb}
use Rattle.std.proofs.Common.{arith, div-mul-le_self}
use Rattle.model.specs.declared.Context.{Context}
use Rattle.model.specs.Bits.{bits}
use Rattle.model.specs.Context.{in_range}
use Rattle.model.specs.Mappings.{pages}
use Rattle.model.specs.Events.{canonical, page_of, guest_physical_in_range}
use Rattle.model.specs.Scopes.{ep4ta_of}
use Rattle.model.specs.Answers.{eptp_rule}
use Rattle.walks.specs.declared.Translation.{Translation}
use Rattle.walks.specs.declared.Ground.{Ground}
use Rattle.walks.specs.declared.Stopped.{Stopped}
use Rattle.walks.specs.declared.Physical.{Physical}
use Rattle.walks.specs.declared.Found.{Found}
use Rattle.walks.specs.Walks.{Memory, ending_of, read_of, held, ept_present, guest_present, large, in_page, rounded, then, entry_place, ept_entry, ept_from, ept_walk, translation, final_from, guest_entry, through_ept, guest_from, root_base, walk_in, walk_of}
use Rattle.walks.specs.Theorem.{WalkReadsAtMost24}
use Rattle.walks.proofs.Laws.Steps.{large_span}

-- what holds in both cases holds
pub cond_both : {A : Type 0} (P : A → Type 0) (b : Bool) {x y : A} → (b ≡ true → P x) → (b ≡ false → P y) → P (cond b x y)
cond_both P true p q = p refl
cond_both P false p q = q refl

-- an entry holds an address below 2^52, and a page there ends by 2^52
pub held_below : (e : ℕ) → held e < 2 ^ 52
held_below e = omega arith

pub in_page_below : (base span address : ℕ) → base < 2 ^ 52 → span ≤ 2 → in_page base span address < 2 ^ 52
in_page_below base zero address h s = omega arith
in_page_below base (suc zero) address h s = omega arith
in_page_below base (suc (suc zero)) address h s = omega arith
in_page_below base (suc (suc (suc n))) address h s = absurd (omega arith)

-- what a translation of an address is: its mark and its span are in their ranges, its page is that of the address,
-- rounded down, and its frame has five bytes
pub record Sound (address : ℕ) (t : Translation) : Type 0 where
  pub global : t.global ≤ 1
  pub span : t.span ≤ 2
  pub page : t.page ≡ rounded t.span (page_of 48 address)
  pub frame : t.frame < 2 ^ 40

abbrev pub SoundEnding : ℕ → Result Translation Ground → Type 0
SoundEnding address (Ok t) = Sound address t
SoundEnding address (Err met) = Unit {0}

-- at most so many entries are read, and a translation is sound
pub record Ends (address most : ℕ) (w : Result Found Stopped) : Type 0 where
  pub read : read_of w ≤ most
  pub sound : SoundEnding address (ending_of w)

-- at most so many entries are read; a physical address is one below 2^52, in a page of a span
abbrev pub Within : ℕ → Result Physical Stopped → Type 0
Within most (Ok p) = (p.read ≤ most) × (p.span ≤ 2) × (p.address < 2 ^ 52)
Within most (Err s) = s.read ≤ most

-- an EPT entry reads one, and then goes on within the bound
ept_entry_within : (most : ℕ) (go : ℕ → Result Physical Stopped) (m : Memory) (guest address level at read : ℕ) → read + 1 ≤ most
    → ((base : ℕ) → base < 2 ^ 52 → Within most (go base))
    → Within most (ept_entry go m guest address level at read)
unfolding ept_entry
ept_entry_within most go m guest address level at read le each =
    let e = m.entry at in
    cond_both (Within most) (not (m.inside at)) (λ out. omega arith)
    (λ within. cond_both (Within most) (not (ept_present e)) (λ absent. le)
    (λ present. cond_both (Within most) (large level e)
    (λ big. let span = (large_span level e big).1 in (le, span, in_page_below (held e) (level - 1) address (held_below e) span))
    (λ small. each (held e) (held_below e))))

pub ept_from_within : (most : ℕ) (m : Memory) (guest address level base read : ℕ) → base < 2 ^ 52 → read + level ≤ most
    → Within most (ept_from m guest address level base read)
unfolding ept_from
ept_from_within most m guest address zero base read h le = (omega arith, omega arith, in_page_below base 0 address h (omega arith))
ept_from_within most m guest address (suc n) base read h le =
    ept_entry_within most (λ next. ept_from m guest address n next (read + 1)) m guest address (suc n)
    (entry_place base (suc n) address) read (omega arith)
    (λ next below. ept_from_within most m guest address n next (read + 1) below (omega arith))

pub ept_walk_within : (m : Memory) (root guest address read : ℕ) → root < 2 ^ 52
    → Within (read + 4) (ept_walk m root guest address read)
unfolding ept_walk
ept_walk_within m root guest address read h =
    cond_both (Within (read + 4)) (guest_physical_in_range address) (λ small. ept_from_within (read + 4) m guest address 4 root read h (omega arith))
    (λ high. omega arith)

pub translation_sound : (address span global : ℕ) (p : Physical) → span ≤ 2 → global ≤ 1 → p.span ≤ 2 → p.address < 2 ^ 52
    → Sound address (translation address span global p)
unfolding translation
translation_sound address span global p s g ps pa =
    record {
      global = g;
      span = omega arith;
      page = refl;
      frame = omega (arith, div-mul-le_self (p.address / 4096) (pages (translation address span global p).span));
    }

-- where a walk goes on from a physical address, and ends within a bound, it does in both cases
then_ends : (address most more : ℕ) (x : Result Physical Stopped) (go : Physical → Result Found Stopped) → Within most x → most ≤ more
    → ((p : Physical) → p.read ≤ most → p.span ≤ 2 → p.address < 2 ^ 52 → Ends address more (go p))
    → Ends address more (then x go)
then_ends address most more (Ok p) go h le each = each p h.0 h.1 h.2
then_ends address most more (Err s) go h le each = record { read = omega arith; sound = tt }

pub final_from_ends : (m : Memory) (root address base span global read : ℕ) → root < 2 ^ 52 → span ≤ 2 → global ≤ 1
    → Ends address (read + 4) (final_from m root address base span global read)
unfolding final_from
final_from_ends m root address base span global read h s g =
    then_ends address (read + 4) (read + 4) (ept_walk m root 0 (in_page base span address) read) _
    (ept_walk_within m root 0 (in_page base span address) read h)
    (omega arith)
    (λ p pr ps pa. record { read = pr; sound = translation_sound address span global p s g ps pa })

-- a level reads five entries, and the final address four
pub through_ept_ends : (go : ℕ → ℕ → ℕ → Result Found Stopped) (m : Memory) (root address level at read most : ℕ) → root < 2 ^ 52 → read + 9 ≤ most
    → ((base global count : ℕ) → global ≤ 1 → count ≤ read + 5 → Ends address most (go base global count))
    → Ends address most (through_ept go m root address level at read)
unfolding through_ept guest_entry
through_ept_ends go m root address level at read most h le each =
    then_ends address (read + 4) most (ept_walk m root level at read) _ (ept_walk_within m root level at read h) (omega arith)
    (λ p pr ps pa.
    let e = m.entry p.address in
    cond_both (Ends address most) (not (m.inside p.address)) (λ out. record { read = omega arith; sound = tt })
    (λ within. cond_both (Ends address most) (not (guest_present e)) (λ absent. record { read = omega arith; sound = tt })
    (λ present. cond_both (Ends address most) (large level e)
    (λ big. let final = final_from_ends m root address (held e) (level - 1) (bits 8 8 e) (p.read + 1) h (large_span level e big).1 (omega arith) in
    record { read = omega (arith, final.read); sound = final.sound })
    (λ small. each (held e) (bits 8 8 e) (p.read + 1) (omega arith) (omega arith)))))

pub guest_from_ends : (m : Memory) (root address level base global read most : ℕ) → root < 2 ^ 52 → global ≤ 1 → read + (5 * level + 4) ≤ most
    → Ends address most (guest_from m root address level base global read)
unfolding guest_from
guest_from_ends m root address zero base global read most h g le =
    let final = final_from_ends m root address base 0 global read h (omega arith) g in
    record { read = omega (arith, final.read); sound = final.sound }
guest_from_ends m root address (suc n) base global read most h g le =
    through_ept_ends (λ next mark count. guest_from m root address n next mark count) m root address (suc n)
    (entry_place base (suc n) address) read most h (omega arith)
    (λ next mark count small few. guest_from_ends m root address n next mark count most h small (omega arith))

pub walk_in_ends : (m : Memory) (c : Context) (root eptp address : ℕ) → Ends address 24 (walk_in m c root eptp address)
unfolding walk_in
walk_in_ends m c root eptp address =
    cond_both (Ends address 24) (not (in_range c)) (λ out. record { read = omega arith; sound = tt })
    (λ fits. cond_both (Ends address 24) (not (eqb (eptp_rule c eptp) 0)) (λ bad. record { read = omega arith; sound = tt })
    (λ good. cond_both (Ends address 24) (not (canonical 48 address)) (λ high. record { read = omega arith; sound = tt })
    (λ low. guest_from_ends m (4096 * ep4ta_of eptp) address 4 (root_base root) 0 0 24 (omega arith) (omega arith) (omega arith))))

pub walk_in_reads : (m : Memory) (c : Context) (root eptp address : ℕ) → read_of (walk_in m c root eptp address) ≤ 24
walk_in_reads m c root eptp address = (walk_in_ends m c root eptp address).read

pub walk_reads_at_most_24_holds : WalkReadsAtMost24
unfolding walk_of
walk_reads_at_most_24_holds m c root eptp vpid address = walk_in_reads m c root eptp address
