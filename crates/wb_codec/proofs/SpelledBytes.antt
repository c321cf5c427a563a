-- A datagram is spelled in bytes.
use Rattle.std.proofs.lemmas.Grind.{common_steps}
use Rattle.std.proofs.Common.{ℕ, ◌<◌, List, [], ◌∷◌, ◌++◌, length, arith}
use Rattle.std.specs.Prelude.{slice_index}
use Rattle.std.specs.List.{flat_map}
use Rattle.std.specs.Int.{w16, w32, w64, to_be_bytes}
use Rattle.wb_names.specs.Values.{NameValue, MarkValue}
use Rattle.wb_names.specs.declared.name.PageId.{PageId}
use Rattle.wb_names.specs.declared.echo.Echo.{Echo}
use Rattle.wb_names.specs.declared.parts.Stroke.{Stroke}
use Rattle.wb_names.specs.declared.parts.Target.{Target}
use Rattle.wb_names.specs.declared.parts.Op.{Op}
use Rattle.wb_names.specs.declared.parts.Op.TheVariants.{Drawn, Text, Aimed}
use Rattle.wb_names.specs.Drawing.{IsLawful}
use Rattle.wb_names.specs.Kinds.{op_kind}
use Rattle.wb_codec.specs.declared.datagram.Datagram.{Datagram}
use Rattle.wb_codec.specs.declared.datagram.Datagram.TheVariants.{Draw, Session, Request, AskPages, PageState}
use Rattle.wb_codec.specs.declared.version.Version.{Version}
use Rattle.wb_codec.specs.declared.version.Version.TheVariants.{One, Two}
use Rattle.wb_codec.specs.Ranges.{IsDatagram}
use Rattle.wb_codec.specs.Kinds.{op_code}
use Rattle.wb_codec.specs.Spelling.{page_bytes, name_bytes, stroke_bytes, target_bytes, field_bytes, op_bytes, mark_bytes, echo_bytes, body, kind_code, version_of, version_code, spelling}
use Rattle.wb_codec.proofs.Bytes.{IsBytes, IsBytes-append}
use Rattle.wb_codec.proofs.DrawopLaws.{code_below}
use Rattle.wb_codec.proofs.Lawful.{lawful_stroke, lawful_text}

record AreBytes (bytes : List ℕ) : Type 0 where
  each : IsBytes bytes

cat : (xs ys : List ℕ) → AreBytes xs → AreBytes ys → AreBytes (xs ++ ys)
cat xs ys p q = record { each = IsBytes-append xs ys p.each q.each }

none : AreBytes []
none = record { each = λ i. omega arith }

put : (b : ℕ) (xs : List ℕ) → b < 256 → AreBytes xs → AreBytes (b ∷ xs)
put b xs lt p = grind (arith, common_steps)

be16 : (n : ℕ) → AreBytes (to_be_bytes w16 n)
be16 n = put _ _ (omega arith) (put _ _ (omega arith) none)

be32 : (n : ℕ) → AreBytes (to_be_bytes w32 n)
be32 n = put _ _ (omega arith) (put _ _ (omega arith) (put _ _ (omega arith) (put _ _ (omega arith) none)))

be64 : (n : ℕ) → AreBytes (to_be_bytes w64 n)
be64 n = put _ _ (omega arith) (put _ _ (omega arith) (put _ _ (omega arith) (put _ _ (omega arith) (put _ _ (omega arith) (put _ _ (omega arith) (put _ _ (omega arith) (put _ _ (omega arith) none)))))))

page_are : (p : PageId) → AreBytes (page_bytes p)
page_are p = cat _ _ (be32 p.creator) (be32 p.number)

name_are : (n : NameValue) → AreBytes (name_bytes n)
name_are n = cat _ _ (cat _ _ (be32 n.source) (page_are n.page)) (be32 n.seq)

stroke_are : (s : Stroke) → s.glyph < 256 → AreBytes (stroke_bytes s)
stroke_are s lt = cat _ _ (cat _ _ (cat _ _ (cat _ _ (be16 s.x0) (be16 s.y0)) (be16 s.x1)) (be16 s.y1)) (put s.glyph [] lt none)

target_are : (t : Target) → AreBytes (target_bytes t)
target_are t = cat _ _ (be32 t.source) (be32 t.seq)

fields_are : (name : NameValue) (op : Op) → IsLawful name op → AreBytes (field_bytes op)
fields_are name (Drawn figure s) e = stroke_are s (lawful_stroke s e).glyph-fits
fields_are name (Text x y text) e =
    let t = lawful_text x y text e in
    cat _ _ (cat _ _ (cat _ _ (be16 x) (be16 y)) (put (length text) [] (omega (arith, t.few_bytes)) none)) (record { each = t.bytes })
fields_are name (Aimed change t) e = target_are t

op_are : (name : NameValue) (op : Op) → IsLawful name op → AreBytes (op_bytes op)
op_are name op e = put (op_code (op_kind op)) _ (code_below (op_kind op)) (fields_are name op e)

marks_are : (marks : List MarkValue) → AreBytes (flat_map mark_bytes marks)
marks_are [] = none
marks_are (m ∷ marks) = cat _ _ (cat _ _ (be32 m.source) (be32 m.high)) (marks_are marks)

echoes_are : (echoes : List Echo) → AreBytes (flat_map echo_bytes echoes)
echoes_are [] = none
echoes_are (e ∷ echoes) = cat _ _ (cat _ _ (cat _ _ (be32 e.source) (be64 e.sent)) (be64 e.held)) (echoes_are echoes)

body_are : (v : Datagram) → IsDatagram v → AreBytes (body v)
body_are (Draw d) fits = cat _ _ (cat _ _ (name_are d.name) (be64 d.time)) (op_are d.name d.op fits.lawful)
body_are (Session sender sent page marks echoes) fits =
    cat _ _ (cat _ _ (cat _ _ (cat _ _ (be32 sender) (be64 sent)) (page_are page)) (cat _ _ (be16 (length marks)) (marks_are marks))) (cat _ _ (be16 (length echoes)) (echoes_are echoes))
body_are (Request asker name) fits = cat _ _ (be32 asker) (name_are name)
body_are (AskPages asker) fits = be32 asker
body_are (PageState sender page marks) fits = cat _ _ (cat _ _ (be32 sender) (page_are page)) (cat _ _ (be16 (length marks)) (marks_are marks))

version_below : (v : Version) → version_code v < 256
version_below One = omega arith
version_below Two = omega arith

kind_below : (v : Datagram) → kind_code v < 256
kind_below (Draw d) = omega arith
kind_below v = omega arith

spelling_are : (v : Datagram) → IsDatagram v → AreBytes (spelling v)
spelling_are v fits = put 0x57 _ (omega arith) (put 0x42 _ (omega arith) (put (version_code (version_of v)) _ (version_below (version_of v)) (put (kind_code v) _ (kind_below v) (cat _ _ (be32 (length (body v))) (body_are v fits)))))

pub spelled_bytes : (v : Datagram) → IsDatagram v → (i : ℕ) → slice_index (spelling v) i < 256
spelled_bytes v fits = (spelling_are v fits).each
