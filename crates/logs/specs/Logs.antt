-- Document 01, "Replay program": how a log is cut into events.
use Rattle.std.specs.Prelude.{ℕ, zero, suc, ◌+◌, ◌^◌, Bool, cond, not, ◌&&◌, List, [], ◌∷◌, leb, length, take, drop}
use Rattle.model.specs.declared.Context.{Context}
use Rattle.model.specs.declared.Place.TheVariants.{Outside}
use Rattle.model.specs.Layouts.{kind_of, event_kind, length_of}
use Rattle.model.specs.Mappings.{other_width}

-- "a log of at most 65,536 bytes"
abbrev pub log_limit : ℕ
log_limit = 65536

-- "N = 52 and capability bits 6, 8, 14, 20, 21, 25, 26, 32, 40 to 43 set", from a reset; "The replay and the bench cards run
-- at 48" (Ask 12)
abbrev pub program : Context
program =
    record {
      capability = 2 ^ 6 + 2 ^ 8 + 2 ^ 14 + 2 ^ 20 + 2 ^ 21 + 2 ^ 25 + 2 ^ 26 + 2 ^ 32 + 2 ^ 40 + 2 ^ 41 + 2 ^ 42 + 2 ^ 43;
      width = 52;
      linear_width = 48;
      pcid = 0;
      cpl = 0;
      place = Outside;
    }

-- the linear width at which the program reads a log
abbrev pub program_width : ℕ
program_width = program.linear_width

-- the kind is known at a linear width; "the other width's kinds [are] unknown" (document 02, Ask 12)
abbrev pub known_at : ℕ → ℕ → Bool
known_at width kind = event_kind kind && not (other_width width kind)

-- how many bytes the first event of a log has by its kind; 0 where the kind is unknown or there is no byte
unfoldable pub told_length : ℕ → List ℕ → ℕ
told_length width log = cond (known_at width (kind_of log)) (length_of (kind_of log)) 0

-- how many bytes the first event of a log takes: as many as its kind says. "An unknown kind or a cut
-- record ... ends the run": it takes all the bytes that are left, which no step accepts.
unfoldable pub event_size : ℕ → List ℕ → ℕ
event_size width log =
    cond (known_at width (kind_of log) && leb (length_of (kind_of log)) (length log)) (length_of (kind_of log)) (length log)

-- the events of a log, at most as many as the first number says
unfoldable pub events_within : ℕ → ℕ → List ℕ → List (List ℕ)
events_within width zero log = []
events_within width (suc n) [] = []
events_within width (suc n) (b ∷ bs) = take (event_size width (b ∷ bs)) (b ∷ bs) ∷ events_within width n (drop (event_size width (b ∷ bs)) (b ∷ bs))

-- the events of a log
unfoldable pub events_of : ℕ → List ℕ → List (List ℕ)
events_of width log = events_within width (length log) log

-- the event at a position of a log, and at most n events from there on
abbrev pub event_at : ℕ → List ℕ → ℕ → List ℕ
event_at width log at = take (event_size width (drop at log)) (drop at log)

unfoldable pub events_from : ℕ → List ℕ → ℕ → ℕ → List (List ℕ)
events_from width log at n = take n (events_of width (drop at log))
