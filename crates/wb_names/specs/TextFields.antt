-- How a text lies in its buffer.
use Rattle.std.specs.Prelude.{◌≡◌, ℕ, ◌≤◌, ◌-◌, List, ◌++◌, take, length, replicate}
use Rattle.wb_names.specs.declared.text.TheConstants.Text.{MAX_LEN}
use Rattle.wb_names.specs.declared.text.Text.TheInside.{Inside}
use Rattle.std.proofs.Common.{sym}
use Rattle.std.proofs.lemmas.List.{length-take-le}

-- the bytes, and zeros up to the most that a text can have
abbrev pub padded : List ℕ → List ℕ
padded bytes = bytes ++ replicate (MAX_LEN - length bytes) 0

-- the text fits, and the buffer's bytes from its end on are 0
pub record IsTextFields (n : ℕ) (bytes : List ℕ) : Type 0 where
  pub fits : n ≤ length bytes
  pub zeros : bytes ≡ padded (take n bytes)

same_fields : (a b : ℕ) (xs ys : List ℕ) → a ≡ b → xs ≡ ys → let v : Inside = record { len = a; buffer = xs } in let w : Inside = record { len = b; buffer = ys } in v ≡ w
same_fields a b xs ys e f = cc

-- nothing of a text is lost in its bytes
pub text_inverse_ok : (t : Inside) → IsTextFields t.len t.buffer → record { len = length (take t.len t.buffer); buffer = padded (take t.len t.buffer) } ≡ t
text_inverse_ok t h = same_fields _ _ _ _ (length-take-le t.len t.buffer h.fits) (sym h.zeros)
