-- What a lawful operation is, field by field.
use Rattle.std.proofs.lemmas.Grind.{common_steps}
use Rattle.std.proofs.Common.{◌≡◌, ℕ, ◌<◌, ◌≤◌, ◌^◌, None, List, length, arith}
use Rattle.wb_names.specs.Values.{NameValue}
use Rattle.wb_names.specs.declared.parts.Stroke.{Stroke}
use Rattle.wb_names.specs.declared.parts.Op.{Op}
use Rattle.wb_names.specs.declared.parts.Op.TheVariants.{Text}
use Rattle.wb_names.specs.Drawing.{text_of, IsLawful, stroke_fault, text_fault}
use Rattle.wb_codec.proofs.Bytes.{IsBytes}

pub record IsStroke (s : Stroke) : Type 0 where
  pub x0-fits : s.x0 < 2 ^ 12
  pub y0-fits : s.y0 < 2 ^ 12
  pub x1-fits : s.x1 < 2 ^ 12
  pub y1-fits : s.y1 < 2 ^ 12
  pub glyph-fits : s.glyph < 2 ^ 8

pub lawful_stroke : (s : Stroke) → stroke_fault s ≡ None → IsStroke s
lawful_stroke s e = grind (arith, common_steps)

pub record IsText (x y : ℕ) (text : List ℕ) : Type 0 where
  pub x-fits : x < 2 ^ 12
  pub y-fits : y < 2 ^ 12
  pub some_bytes : 1 ≤ length text
  pub few_bytes : length text ≤ 64
  pub bytes : IsBytes text

pub lawful_text : (x y : ℕ) (text : List ℕ) → text_fault x y text ≡ None → IsText x y text
lawful_text x y text e = grind (arith, common_steps)

-- the bytes of a lawful operation's text are few
pub text_fits : (name : NameValue) (op : Op) → IsLawful name op → length (text_of op) ≤ 64
text_fits name (Text x y text) e = (lawful_text x y text e).few_bytes
text_fits name op e = omega arith
