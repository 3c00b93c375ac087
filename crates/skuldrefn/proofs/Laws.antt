-- A replay as numbers, from its parts.
use Rattle.std.specs.Prelude.{ℕ, ◌≤◌, List, ◌≡◌, length}
use Rattle.model.specs.declared.Context.{Context}
use Rattle.model.specs.Tables.{limit}
use Rattle.logs.specs.declared.Replayed.{Replayed}
use Rattle.logs.specs.Replays.{Replays, ByTheBook}
use Rattle.skuldrefn.specs.declared.FlatReplayed.{FlatReplayed}
use Rattle.skuldrefn.specs.Flat.{flat_replayed, FlatReplays}

pub flat_replays : {c : Context} {log a b out : List ℕ} {replayed : Replayed} {r : FlatReplayed} {a' b' out' : List ℕ} → r ≡ flat_replayed replayed
    → Replays c log a b out replayed a' b' out'
    → (limit ≤ length a → limit ≤ length b → ByTheBook c log out replayed a' b' out')
    → FlatReplays c log a b out r a' b' out'
flat_replays {replayed = replayed} told run book = record { replayed = replayed; told = told; run = run; book = book }
