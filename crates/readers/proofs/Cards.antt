-- Rows about readers: which of them count as ignoring, and what each change leaves; all under one statement.
use Rattle.std.specs.Prelude.{ℕ, ◌-◌, ◌^◌, Bool, true, false, List, [], ◌∷◌, ◌++◌, map, ◌≡◌, refl, replicate, length, drop}
use Rattle.model.specs.Buffers.{put}
use Rattle.model.specs.Layouts.{kind_of, event_kind, body_of, length_of}
use Rattle.model.specs.Mappings.{linear, combined, wide, other_width}
use Rattle.readers.specs.declared.Reader.{Reader}
use Rattle.readers.specs.Readers.{held_bytes, first_size, complete, counts_as_ignoring, next_line, holding, read_on, ended, emptied}

-- a reader that holds the front of some bytes, so many of them; zeros stand behind these, up to 24 places
reader : ℕ → Bool → ℕ → List ℕ → Reader
reader line ignoring size bytes = record { line = line; ignoring = ignoring; length = size; held = bytes ++ drop (length bytes) (replicate 24 0) }

-- whether a reader without a flag ignores at a linear width, with so many of the bytes held
ignores : ℕ → ℕ → List ℕ → Bool
ignores width size bytes = counts_as_ignoring width (reader 5 false size bytes)

-- a VM exit, and the first 24 of an INVVPID's 25 bytes
exit : List ℕ
exit = 21 ∷ 7 ∷ 0 ∷ []

invvpid : List ℕ
invvpid = 16 ∷ replicate 23 0

-- Every row holds.
record Rows : Type 0 where
  -- nothing held; the flag set, whatever is held
  fresh : ignores 48 0 [] ≡ false
  flagged : counts_as_ignoring 48 (reader 0 true 0 []) ≡ true
  flagged_holding : counts_as_ignoring 48 (reader 0 true 2 exit) ≡ true
  -- a VM exit has three bytes: the first and the second are held, three or four complete it
  part : map (λ size. ignores 48 size exit) (1 ∷ 2 ∷ 3 ∷ 4 ∷ []) ≡ false ∷ false ∷ true ∷ true ∷ []
  -- VMXON, VMXOFF and a reset are whole with their kind byte
  whole : map (λ kind. ignores 48 1 (kind ∷ [])) (22 ∷ 23 ∷ 25 ∷ []) ≡ true ∷ true ∷ true ∷ []
  -- 24 bytes of an event of 25 are the most; 25 and more are ignored, whatever they are
  most : map (λ size. ignores 48 size invvpid) (23 ∷ 24 ∷ 25 ∷ 26 ∷ []) ≡ false ∷ false ∷ true ∷ true ∷ []
  -- kinds by the linear width: 0, 11 and 28 are unknown at both, 7 to 10 at 48, 1, 3, 4 and 6 at 57; any width but 57 is 48
  narrow : map (λ kind. ignores 48 1 (kind ∷ [])) (0 ∷ 1 ∷ 2 ∷ 3 ∷ 7 ∷ 10 ∷ 11 ∷ 28 ∷ []) ≡ true ∷ false ∷ false ∷ false ∷ true ∷ true ∷ true ∷ true ∷ []
  wide : map (λ kind. ignores 57 1 (kind ∷ [])) (0 ∷ 1 ∷ 2 ∷ 3 ∷ 7 ∷ 10 ∷ 11 ∷ 28 ∷ []) ≡ true ∷ true ∷ false ∷ true ∷ false ∷ false ∷ true ∷ true ∷ []
  other : map (λ kind. ignores 0 1 (kind ∷ [])) (1 ∷ 7 ∷ []) ≡ false ∷ true ∷ []
  -- the number of a line
  lines : map next_line (0 ∷ 1 ∷ (2 ^ 64 - 2) ∷ (2 ^ 64 - 1) ∷ []) ≡ 1 ∷ 2 ∷ (2 ^ 64 - 1) ∷ (2 ^ 64 - 1) ∷ []
  -- bytes that are held go behind those held, and no other place changes
  held : holding (reader 5 false 1 (21 ∷ 8 ∷ 9 ∷ 10 ∷ [])) (3 ∷ 4 ∷ []) ≡ reader 5 false 3 (21 ∷ 3 ∷ 4 ∷ 10 ∷ [])
  none : holding (reader 5 false 1 exit) [] ≡ reader 5 false 1 exit
  bytes : held_bytes (reader 5 false 2 exit) ≡ 21 ∷ 7 ∷ []
  -- an event that is reported, a finish call that reports none, and a reset
  reported : read_on (reader 5 false 2 exit) true ≡ reader 6 true 0 exit
  ends : ended (reader 5 false 0 exit) ≡ reader 5 true 0 exit
  resets : emptied (reader 5 true 25 exit) ≡ reader 5 false 0 exit

cards_hold : Rows
unfolding reader ignores exit invvpid put kind_of event_kind body_of length_of linear combined wide other_width held_bytes first_size complete counts_as_ignoring next_line
cards_hold =
    record {
      fresh = refl;
      flagged = refl;
      flagged_holding = refl;
      part = refl;
      whole = refl;
      most = refl;
      narrow = refl;
      wide = refl;
      other = refl;
      lines = refl;
      held = refl;
      none = refl;
      bytes = refl;
      reported = refl;
      ends = refl;
      resets = refl;
    }
