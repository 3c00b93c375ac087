-- Rows about the program's context and about how a log is cut into events, all under one statement.
use Rattle.std.specs.Prelude.{ℕ, List, [], ◌∷◌, ◌++◌, map, ◌≡◌, refl}
use Rattle.model.specs.Bits.{bytes}
use Rattle.model.specs.Context.{after_reset}
use Rattle.model.specs.Layouts.{kind_of, event_kind, body_of, length_of}
use Rattle.model.specs.Mappings.{linear, combined, wide, other_width}
use Rattle.logs.specs.Logs.{log_limit, program, told_length, event_size, events_within, events_of, events_from}

-- a VM exit, and a VM exit cut after two bytes
exit : List ℕ
exit = 21 ∷ 7 ∷ 0 ∷ []

cut_exit : List ℕ
cut_exit = 21 ∷ 7 ∷ []

-- the kinds of mappings, and 11, each by its first byte
heads : List (List ℕ)
heads = (1 ∷ []) ∷ (2 ∷ []) ∷ (3 ∷ []) ∷ (4 ∷ []) ∷ (5 ∷ []) ∷ (6 ∷ []) ∷ (7 ∷ []) ∷ (8 ∷ []) ∷ (9 ∷ []) ∷ (10 ∷ []) ∷ (11 ∷ []) ∷ []

-- Every row holds.
record Rows : Type 0 where
  -- bits 6, 8, 14, 20, 21, 25, 26, 32, 40 to 43; a reset leaves the program's context
  capability : program.capability ≡ 0xF0106304140
  width : program.width ≡ 52
  linear_width : program.linear_width ≡ 48
  reset : after_reset program ≡ program
  limit : log_limit ≡ 65536
  -- the length that a kind tells, also of a cut record; 0 of an unknown kind and of nothing
  told : map (told_length 48) (exit ∷ cut_exit ∷ (exit ++ exit) ∷ (0 ∷ exit) ∷ (28 ∷ exit) ∷ [] ∷ []) ≡ 3 ∷ 3 ∷ 3 ∷ 0 ∷ 0 ∷ 0 ∷ []
  -- a whole event takes its own bytes, a cut one and an unknown kind all that is left
  taken : map (event_size 48) (exit ∷ cut_exit ∷ (exit ++ exit) ∷ (0 ∷ exit) ∷ (28 ∷ exit) ∷ [] ∷ []) ≡ 3 ∷ 2 ∷ 3 ∷ 4 ∷ 4 ∷ 0 ∷ []
  -- kinds 7 to 10 are unknown at 48, kinds 1, 3, 4 and 6 at 57; kinds 2 and 5 are known at both
  narrow : map (told_length 48) heads ≡ 17 ∷ 17 ∷ 22 ∷ 16 ∷ 17 ∷ 21 ∷ 0 ∷ 0 ∷ 0 ∷ 0 ∷ 0 ∷ []
  wide : map (told_length 57) heads ≡ 0 ∷ 17 ∷ 0 ∷ 0 ∷ 17 ∷ 0 ∷ 18 ∷ 23 ∷ 17 ∷ 22 ∷ 0 ∷ []
  other : map (told_length 56) heads ≡ map (told_length 48) heads
  unknown : event_size 48 ((7 ∷ bytes 17 0) ++ exit) ≡ 21
  known : event_size 57 ((7 ∷ bytes 17 0) ++ exit) ≡ 18
  events : events_of 48 (exit ++ (22 ∷ []) ++ exit ++ cut_exit) ≡ exit ∷ (22 ∷ []) ∷ exit ∷ cut_exit ∷ []
  last : events_of 48 (exit ++ (0 ∷ exit)) ≡ exit ∷ (0 ∷ exit) ∷ []
  -- at most so many events from a position on
  from : events_from 48 (exit ++ (22 ∷ []) ++ exit) 3 1 ≡ (22 ∷ []) ∷ []

cards_hold : Rows
unfolding heads bytes linear combined wide other_width exit cut_exit after_reset kind_of event_kind body_of length_of told_length event_size events_within events_of events_from
cards_hold =
    record {
      capability = refl;
      width = refl;
      linear_width = refl;
      reset = refl;
      limit = refl;
      told = refl;
      taken = refl;
      narrow = refl;
      wide = refl;
      other = refl;
      unknown = refl;
      known = refl;
      events = refl;
      last = refl;
      from = refl;
    }
