-- Where the fields that every kind has stand: span, page and frame.
use Rattle.std.specs.Prelude.{ℕ, ◌+◌, ◌≤◌, cond, List, ◌≡◌, length}
use Rattle.model.specs.Bits.{number}
use Rattle.model.specs.Mappings.{mapping, wide}

-- how many bytes the page of a kind has
abbrev pub page_bytes : ℕ → ℕ
page_bytes kind = cond (wide kind) 6 5

-- where the span of the record at the front of r stands, with its page and its frame after it
pub record SpanAt (r : List ℕ) (at : ℕ) : Type 0 where
  pub span : number 1 at r ≡ (mapping r).span
  pub page : number (page_bytes (mapping r).kind) (at + 1) r ≡ (mapping r).page
  pub frame : number 5 (cond (wide (mapping r).kind) (at + 6 + 1) (at + 6)) r ≡ (mapping r).frame
  pub fits : at + 6 + page_bytes (mapping r).kind ≤ length r
