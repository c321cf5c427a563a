-- Fronts of a text.
use Rattle.std.proofs.Common.{ℕ, List, [], ◌++◌, refl, sym, ap, ◌∙◌, append_assoc, append-nil}
use Rattle.wb_lines.specs.Input.{BeginsWith}

pub begins_all : (text : List ℕ) → BeginsWith text text
begins_all text = ([], sym (append-nil text))

pub begins_empty : (text : List ℕ) → BeginsWith text []
begins_empty text = (text, refl)

pub begins_behind : (text rest front : List ℕ) → BeginsWith rest front → BeginsWith (text ++ rest) (text ++ front)
begins_behind text rest front b = (b.0, ap (λ (x : List ℕ). text ++ x) b.1 ∙ sym (append_assoc text front b.0))

pub begins_front : (text more front : List ℕ) → BeginsWith text more → BeginsWith more front → BeginsWith text front
begins_front text more front b a = (a.0 ++ b.0, b.1 ∙ ap (λ (x : List ℕ). x ++ b.0) a.1 ∙ append_assoc front a.0 b.0)
