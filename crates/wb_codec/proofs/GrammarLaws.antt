-- The laws of the grammar: what is read is spelled so, what is spelled so is read, and only whole datagrams are read.
use Rattle.std.proofs.lemmas.Grind.{common_steps}
use Rattle.std.proofs.Common.{◌≡◌, ℕ, ◌^◌, ◌<◌, List, [], ◌++◌, length, Result, Ok, Option, refl, sym, ap, subst, ◌∙◌, append_assoc, append-nil, arith, ◌+◌, ◌*◌, ◌∷◌, Bool, true, false, cond, Err, suc, take}
use Rattle.std.specs.List.{flat_map}
use Rattle.std.specs.Int.{w16, w32, w64, to_be_bytes, from_be_bytes}
use Rattle.wb_names.specs.Values.{NameValue, MarkValue, DrawopValue}
use Rattle.wb_names.specs.Drawing.{seq_fault, IsLawful}
use Rattle.wb_names.specs.declared.name.PageId.{PageId}
use Rattle.wb_names.specs.declared.echo.Echo.{Echo}
use Rattle.wb_names.specs.declared.fault.FieldFault.{FieldFault}
use Rattle.wb_codec.specs.declared.fault.ReadFault.{ReadFault}
use Rattle.wb_codec.specs.declared.datagram.Datagram.{Datagram}
use Rattle.wb_codec.specs.declared.header.Kind.{Kind}
use Rattle.wb_codec.specs.declared.header.Kind.TheVariants.{Draw, Session, Request, AskPages, PageState}
use Rattle.wb_codec.specs.declared.version.Version.{Version}
use Rattle.wb_codec.specs.declared.version.Version.TheVariants.{One, Two}
use Rattle.wb_codec.specs.Ranges.{IsName, IsSession, IsPageState, IsDatagram, IsDrawop}
use Rattle.wb_codec.specs.Spelling.{page_bytes, name_bytes, mark_bytes, echo_bytes, list_bytes, body, version_of, op_bytes, version_code, kind_code, framed, spelling}
use Rattle.wb_codec.specs.Reading.{◌>>=◌, name_at, end_of, in_range, draw_at, session_at, request_at, ask_pages_at, page_state_at, body_at, Framed, version_at, kind_at, frame_at, reading}
use Rattle.wb_codec.proofs.Bytes.{IsBytes, IsBytes-drop, IsBytes-take}
use Rattle.wb_codec.proofs.FieldLaws.{Reads, gives, step, ended, ranges, ends, Takes-then, Takes-all, page_reads, page_again, name_reads, name_again, has_width, found, never_memory, weaker, checked, number_again, number_reads, wide16, wide32, wide64}
use Rattle.wb_codec.proofs.DrawopLaws.{drawop_reads, drawop_again, named, seq_free}
use Rattle.wb_codec.proofs.EntryLaws.{marks_read, marks_again, echoes_read, echoes_again}
use Rattle.std.proofs.lemmas.List.{length-append, length-take}
use Rattle.wb_names.specs.declared.parts.Op.{Op}
use Rattle.wb_names.specs.declared.parts.Op.TheVariants.{Text}
use Rattle.wb_codec.proofs.Lawful.{lawful_text}
use Rattle.std.specs.Prelude.{nat_eq, nat_le, ◌&&◌, All}
use Rattle.std.proofs.lemmas.Bool.{eqb-true, leb-true, le-leb}
use Rattle.std.proofs.lemmas.Bool.Decides.{nat_tests}
use Rattle.std.proofs.lemmas.Nat.{be_bytes_4, from_be_bytes-to_be_bytes_4}
use Rattle.wb_codec.specs.Grammar.{Spells, IsFaultOf}
use Rattle.wb_codec.specs.declared.fault.ReadFault.TheVariants.{Short, Trailing}
use Rattle.wb_codec.specs.declared.datagram.Datagram.TheVariants as datagrams
use Rattle.wb_codec.specs.declared.fault.ReadFault.TheVariants as faults

-- ---- bodies

-- the kind of a datagram
abbrev pub kind_of : Datagram → Kind
kind_of (datagrams.Draw d) = Draw
kind_of (datagrams.Session sender sent page marks echoes) = Session
kind_of (datagrams.Request asker name) = Request
kind_of (datagrams.AskPages asker) = AskPages
kind_of (datagrams.PageState sender page marks) = PageState

-- what was taken of a body
pub record BodyTaken (version : Version) (kind : Kind) (bytes : List ℕ) (v : Datagram) : Type 0 where
  pub parts : bytes ≡ body v
  pub fits : IsDatagram v
  pub version-is : version_of v ≡ version
  pub kind-is : kind_of v ≡ kind

-- version 2 has drawops alone
abbrev pub HasKind : Version → Kind → Type 0
HasKind One kind = Unit {0}
HasKind Two Draw = Unit {0}
HasKind Two kind = ⊥

pub body_reads : (version : Version) (kind : Kind) (bytes : List ℕ) → HasKind version kind → IsBytes bytes → Reads (BodyTaken version kind bytes) (body_at version kind bytes)
unfolding body_at draw_at session_at request_at ask_pages_at page_state_at
body_reads version Draw bytes has fits = step _ (drawop_reads version bytes fits) (λ d t. gives _ (record { parts = t.parts; fits = t.fits; version-is = t.version-is; kind-is = refl }))
body_reads One Session bytes has fits = step _ (number_reads wide32 bytes fits) (λ a ta. step _ (number_reads wide64 a.1 ta.0.rest_fits) (λ b tb. step _ (page_reads b.1 tb.0.rest_fits) (λ p tp.
    step _ (number_reads wide16 p.1 tp.0.rest_fits) (λ m tm. step _ (marks_read p.1 m tm) (λ ms tms. step _ (number_reads wide16 ms.1 tms.0.rest_fits) (λ n tn. step _ (echoes_read ms.1 n tn) (λ es tes. ends es.1 _ (λ end. record {
      parts = Takes-all _ _ _ (Takes-then _ _ _ _ _ (Takes-then _ _ _ _ _ (Takes-then _ _ _ _ _ (Takes-then _ _ _ _ _ ta.0 tb.0) tp.0) tms.0) tes.0) end;
      fits = record { sender-fits = ta.1; sent-fits = tb.1; page-fits = tp.1; marks-fit = tms.1; echoes-fit = tes.1 };
      version-is = refl;
      kind-is = refl;
    }))))))))
body_reads One Request bytes has fits = step _ (number_reads wide32 bytes fits) (λ a ta. step _ (name_reads a.1 ta.0.rest_fits) (λ n tn. ended n.1 n.0 _ (λ end. ranges (seq_fault n.0.seq) _ (λ counted.
    record { parts = Takes-all _ _ _ (Takes-then _ _ _ _ _ ta.0 tn.0) end; fits = (ta.1, named n.0 tn.1 counted); version-is = refl; kind-is = refl }))))
body_reads One AskPages bytes has fits = step _ (number_reads wide32 bytes fits) (λ a ta. ends a.1 _ (λ end. record { parts = Takes-all _ _ _ ta.0 end; fits = ta.1; version-is = refl; kind-is = refl }))
body_reads One PageState bytes has fits = step _ (number_reads wide32 bytes fits) (λ a ta. step _ (page_reads a.1 ta.0.rest_fits) (λ p tp. step _ (number_reads wide16 p.1 tp.0.rest_fits) (λ m tm. step _ (marks_read p.1 m tm) (λ ms tms. ends ms.1 _ (λ end. record {
  parts = Takes-all _ _ _ (Takes-then _ _ _ _ _ (Takes-then _ _ _ _ _ ta.0 tp.0) tms.0) end;
  fits = record { sender-fits = ta.1; page-fits = tp.1; marks-fit = tms.1 };
  version-is = refl;
  kind-is = refl;
})))))
body_reads Two kind bytes has fits = absurd has

-- ---- again

session_again : (sender sent : ℕ) (page : PageId) (marks : List MarkValue) (echoes : List Echo) → IsSession sender sent page marks echoes → session_at (body (datagrams.Session sender sent page marks echoes)) ≡ Ok (datagrams.Session sender sent page marks echoes)
unfolding session_at
session_again sender sent page marks echoes fits =
    let a = to_be_bytes w32 sender in
    let b = to_be_bytes w64 sent in
    let p = page_bytes page in
    let m = to_be_bytes w16 (length marks) in
    let ms = flat_map mark_bytes marks in
    let n = to_be_bytes w16 (length echoes) in
    let es = flat_map echo_bytes echoes in
    let regrouped : a ++ b ++ p ++ (m ++ ms) ++ (n ++ es) ≡ a ++ (b ++ (p ++ (m ++ (ms ++ (n ++ (es ++ [])))))) = simp (append_assoc, append-nil) in
    ap session_at regrouped ∙ rw (
      number_again wide32 sender (b ++ (p ++ (m ++ (ms ++ (n ++ (es ++ [])))))) fits.sender-fits,
      number_again wide64 sent (p ++ (m ++ (ms ++ (n ++ (es ++ []))))) fits.sent-fits,
      page_again page (m ++ (ms ++ (n ++ (es ++ [])))) fits.page-fits,
      number_again wide16 (length marks) (ms ++ (n ++ (es ++ []))) (omega (arith, fits.marks-fit.lawful.few)),
      marks_again marks (n ++ (es ++ [])) fits.marks-fit,
      number_again wide16 (length echoes) (es ++ []) (omega (arith, fits.echoes-fit.lawful.few)),
      echoes_again echoes [] fits.echoes-fit,
    ) refl

page_state_again : (sender : ℕ) (page : PageId) (marks : List MarkValue) → IsPageState sender page marks → page_state_at (body (datagrams.PageState sender page marks)) ≡ Ok (datagrams.PageState sender page marks)
unfolding page_state_at
page_state_again sender page marks fits =
    let a = to_be_bytes w32 sender in
    let p = page_bytes page in
    let m = to_be_bytes w16 (length marks) in
    let ms = flat_map mark_bytes marks in
    let regrouped : a ++ p ++ (m ++ ms) ≡ a ++ (p ++ (m ++ (ms ++ []))) = simp (append_assoc, append-nil) in
    ap page_state_at regrouped ∙ rw (
      number_again wide32 sender (p ++ (m ++ (ms ++ []))) fits.sender-fits,
      page_again page (m ++ (ms ++ [])) fits.page-fits,
      number_again wide16 (length marks) (ms ++ []) (omega (arith, fits.marks-fit.lawful.few)),
      marks_again marks [] fits.marks-fit,
    ) refl

request_again : (asker : ℕ) (name : NameValue) → asker < 2 ^ 32 → IsName name → request_at (body (datagrams.Request asker name)) ≡ Ok (datagrams.Request asker name)
unfolding request_at
request_again asker name lt fits =
    let a = to_be_bytes w32 asker in
    let n = name_bytes name in
    let regrouped : a ++ n ≡ a ++ (n ++ []) = ap (λ (t : List ℕ). a ++ t) (sym (append-nil n)) in
    let rest : ℕ → NameValue × List ℕ → Result Datagram ReadFault = λ k name. end_of name.1 name.0 >>= λ whole. in_range (seq_fault whole.seq) (datagrams.Request k whole) in
    ap request_at regrouped
    ∙ ap (λ (r : Result (ℕ × List ℕ) ReadFault). r >>= λ asker. name_at asker.1 >>= rest asker.0) (number_again wide32 asker (n ++ []) lt)
    ∙ ap (λ (r : Result (NameValue × List ℕ) ReadFault). r >>= rest asker) (name_again name [] (has_width name fits))
    ∙ ap (λ (f : Option FieldFault). in_range f (datagrams.Request asker name)) (seq_free name.seq fits.positive)

ask_pages_again : (asker : ℕ) → asker < 2 ^ 32 → ask_pages_at (body (datagrams.AskPages asker)) ≡ Ok (datagrams.AskPages asker)
unfolding ask_pages_at
ask_pages_again asker lt = grind (arith, common_steps)

pub body_again : (v : Datagram) → IsDatagram v → body_at (version_of v) (kind_of v) (body v) ≡ Ok v
unfolding body_at draw_at
body_again (datagrams.Draw d) fits = rw (drawop_again d fits) refl
body_again (datagrams.Session sender sent page marks echoes) fits = session_again sender sent page marks echoes fits
body_again (datagrams.Request asker name) fits = request_again asker name fits.0 fits.1
body_again (datagrams.AskPages asker) fits = ask_pages_again asker fits
body_again (datagrams.PageState sender page marks) fits = page_state_again sender page marks fits

-- ---- how long bodies are

pub marks_length : (marks : List MarkValue) → length (flat_map mark_bytes marks) ≡ 8 * length marks
marks_length [] = refl
marks_length (m ∷ marks) = omega (arith, marks_length marks)

pub echoes_length : (echoes : List Echo) → length (flat_map echo_bytes echoes) ≡ 20 * length echoes
echoes_length [] = refl
echoes_length (e ∷ echoes) = omega (arith, echoes_length echoes)

pub session_length : (sender sent : ℕ) (page : PageId) (marks : List MarkValue) (echoes : List Echo) → length (body (datagrams.Session sender sent page marks echoes)) ≡ 24 + 8 * length marks + 20 * length echoes
session_length sender sent page marks echoes = omega (arith, marks_length marks, echoes_length echoes, length-append (flat_map mark_bytes marks) (list_bytes echo_bytes echoes))

pub page_state_length : (sender : ℕ) (page : PageId) (marks : List MarkValue) → length (body (datagrams.PageState sender page marks)) ≡ 14 + 8 * length marks
page_state_length sender page marks = omega (arith, marks_length marks)

drawop_short : (d : DrawopValue) (op : Op) → d.op ≡ op → IsDrawop d → length (op_bytes op) < 256
drawop_short d (Text x y text) e fits = let t = lawful_text x y text (subst (λ (o : Op). IsLawful d.name o) e fits.lawful) in omega (arith, t.few_bytes)
drawop_short d op e fits = omega arith

-- four bytes can tell how long a body is
pub body_short : (v : Datagram) → IsDatagram v → length (body v) < 2 ^ 32
body_short (datagrams.Draw d) fits = omega (arith, drawop_short d d.op refl fits)
body_short (datagrams.Session sender sent page marks echoes) fits = omega (arith, session_length sender sent page marks echoes, fits.marks-fit.lawful.few, fits.echoes-fit.lawful.few)
body_short (datagrams.PageState sender page marks) fits = omega (arith, page_state_length sender page marks, fits.marks-fit.lawful.few)
body_short v fits = omega arith

-- the same, of a datagram that was found to be a session message, and of its lists
pub session_length_of : (v : Datagram) (sender sent : ℕ) (page : PageId) (marks : List MarkValue) (echoes : List Echo) (ms : List MarkValue) (es : List Echo) → v ≡ datagrams.Session sender sent page marks echoes → ms ≡ marks → es ≡ echoes → 24 + 8 * length ms + 20 * length es ≡ length (body v)
session_length_of v sender sent page marks echoes ms es is em ee = rw (is, em, ee) (omega (arith, session_length sender sent page marks echoes))

pub page_state_length_of : (v : Datagram) (sender : ℕ) (page : PageId) (marks ms : List MarkValue) → v ≡ datagrams.PageState sender page marks → ms ≡ marks → 14 + 8 * length ms ≡ length (body v)
page_state_length_of v sender page marks ms is em = rw (is, em) (omega (arith, page_state_length sender page marks))

-- ---- the header

abbrev pub kind_number : Kind → ℕ
kind_number Draw = 1
kind_number Session = 2
kind_number Request = 3
kind_number AskPages = 4
kind_number PageState = 5

pub code_of_kind : (v : Datagram) → kind_number (kind_of v) ≡ kind_code v
code_of_kind (datagrams.Draw d) = refl
code_of_kind v = refl

-- what is read, the first where a test holds, else the second
chosen : {A : Type 0} {P : A → Type 0} (b : Bool) (r s : Result A ReadFault) → (b ≡ true → Reads P r) → Reads P s → Reads P (cond b r s)
chosen true r s h k = h refl
chosen false r s h k = k

version_reads : (number : ℕ) → Reads (λ version. number ≡ version_code version) (version_at number)
unfolding version_at
version_reads number = chosen _ _ _ (λ e. gives _ (eqb-true number 1 e)) (chosen _ _ _ (λ e. gives _ (eqb-true number 2 e)) (record { it = refl }))

record KindTaken (version : Version) (number : ℕ) (kind : Kind) : Type 0 where
  number-is : number ≡ kind_number kind
  has : HasKind version kind

kind_reads : (version : Version) (number : ℕ) → Reads (KindTaken version number) (kind_at version number)
unfolding kind_at
kind_reads One number =
    chosen _ _ _ (λ e. gives _ (record { number-is = eqb-true number 1 e; has = tt }))
    (chosen _ _ _ (λ e. gives _ (record { number-is = eqb-true number 2 e; has = tt }))
    (chosen _ _ _ (λ e. gives _ (record { number-is = eqb-true number 3 e; has = tt }))
    (chosen _ _ _ (λ e. gives _ (record { number-is = eqb-true number 4 e; has = tt }))
    (chosen _ _ _ (λ e. gives _ (record { number-is = eqb-true number 5 e; has = tt })) (record { it = refl })))))
kind_reads Two number = chosen _ _ _ (λ e. gives _ (record { number-is = eqb-true number 1 e; has = tt })) (record { it = refl })

record FrameTaken (bytes : List ℕ) (f : Framed) : Type 0 where
  parts : bytes ≡ framed (version_code f.version) (kind_number f.kind) f.body
  has : HasKind f.version f.kind
  body_fits : IsBytes f.body

both_bytes : (a b : ℕ) → (nat_eq a 0x57 && nat_eq b 0x42) ≡ true → (a ≡ 0x57) × (b ≡ 0x42)
both_bytes a b e = (grind (arith, nat_tests), grind (arith, nat_tests))

frame_parts : (a b v k l0 l1 l2 l3 : ℕ) (bytes : List ℕ) (version : Version) (kind : Kind) → IsBytes (a ∷ b ∷ v ∷ k ∷ l0 ∷ l1 ∷ l2 ∷ l3 ∷ bytes) → a ≡ 0x57 → b ≡ 0x42 → v ≡ version_code version → KindTaken version k kind → from_be_bytes w32 (l0 ∷ l1 ∷ l2 ∷ l3 ∷ []) ≡ length bytes → FrameTaken (a ∷ b ∷ v ∷ k ∷ l0 ∷ l1 ∷ l2 ∷ l3 ∷ bytes) (record { version = version; kind = kind; body = bytes })
frame_parts a b v k l0 l1 l2 l3 bytes version kind fits ea eb ev ek size =
    let four : List ℕ = l0 ∷ l1 ∷ l2 ∷ l3 ∷ [] in
    let spelled : to_be_bytes w32 (length bytes) ≡ four = be_bytes_4 four (length bytes) refl (IsBytes-take 4 (l0 ∷ l1 ∷ l2 ∷ l3 ∷ bytes) (IsBytes-drop 4 (a ∷ b ∷ v ∷ k ∷ l0 ∷ l1 ∷ l2 ∷ l3 ∷ bytes) fits)) (sym size) in
    record {
      parts = rw (ea, eb, ev, ek.number-is) (ap (λ (t : List ℕ). 0x57 ∷ 0x42 ∷ version_code version ∷ kind_number kind ∷ (t ++ bytes)) (sym spelled));
      has = ek.has;
      body_fits = IsBytes-drop 8 (a ∷ b ∷ v ∷ k ∷ l0 ∷ l1 ∷ l2 ∷ l3 ∷ bytes) fits;
    }

frame_reads : (bytes : List ℕ) → IsBytes bytes → Reads (FrameTaken bytes) (frame_at bytes)
unfolding frame_at
frame_reads (a ∷ b ∷ v ∷ k ∷ l0 ∷ l1 ∷ l2 ∷ l3 ∷ bytes) fits =
    let size = from_be_bytes w32 (l0 ∷ l1 ∷ l2 ∷ l3 ∷ []) in
    checked (nat_eq a 0x57 && nat_eq b 0x42) faults.Magic size _ refl (λ magic. step _ (version_reads v) (λ version tv. step _ (kind_reads version k) (λ kind tk. checked (nat_le size (length bytes)) faults.Short bytes _ refl (λ enough. checked (nat_le (length bytes) size) faults.Trailing bytes _ refl (λ exact.
    let wb = both_bytes a b magic in
    let size-is : size ≡ length bytes = omega (arith, leb-true size (length bytes) enough, leb-true (length bytes) size exact) in
    gives _ (frame_parts a b v k l0 l1 l2 l3 bytes version kind fits wb.0 wb.1 tv tk size-is))))))
frame_reads bytes fits = record { it = refl }

pub version_again : (version : Version) → version_at (version_code version) ≡ Ok version
unfolding version_at
version_again One = refl
version_again Two = refl

pub kind_again : (version : Version) (kind : Kind) → HasKind version kind → kind_at version (kind_number kind) ≡ Ok kind
unfolding kind_at
kind_again Two Draw has = refl
kind_again Two kind has = absurd has
kind_again One Draw has = refl
kind_again One kind has = refl

frame_again : (version : Version) (kind : Kind) (bytes : List ℕ) → HasKind version kind → length bytes < 2 ^ 32 → frame_at (framed (version_code version) (kind_number kind) bytes) ≡ Ok (record { version = version; kind = kind; body = bytes })
unfolding frame_at
frame_again version kind bytes has lt =
    let back = from_be_bytes-to_be_bytes_4 (length bytes) lt in
    let enough : nat_le (length bytes) (length bytes) ≡ true = le-leb (length bytes) (length bytes) (omega arith) in
    rw (back, version_again version, kind_again version kind has, enough, enough) refl

-- ---- datagrams

pub has_kind : (v : Datagram) → HasKind (version_of v) (kind_of v)
has_kind (datagrams.Draw d) = drawn (version_of (datagrams.Draw d)) where
  drawn : (version : Version) → HasKind version Draw
  drawn One = tt
  drawn Two = tt
has_kind v = tt

reads : (bytes : List ℕ) → IsBytes bytes → Reads (λ v. (bytes ≡ spelling v) × IsDatagram v) (reading bytes)
unfolding reading
reads bytes fits = step _ (frame_reads bytes fits) (λ f tf. weaker (body_reads f.version f.kind f.body tf.has tf.body_fits) (λ v t.
    let version : version_code f.version ≡ version_code (version_of v) = ap version_code (sym t.version-is) in
    let kind : kind_number f.kind ≡ kind_code v = ap kind_number (sym t.kind-is) ∙ code_of_kind v in
    (tf.parts ∙ ap (λ (n : ℕ). framed n (kind_number f.kind) f.body) version ∙ ap (λ (n : ℕ). framed (version_code (version_of v)) n f.body) kind ∙ ap (framed (version_code (version_of v)) (kind_code v)) t.parts, t.fits)))

pub reading_takes : (bytes : List ℕ) (v : Datagram) → IsBytes bytes → reading bytes ≡ Ok v → (bytes ≡ spelling v) × IsDatagram v
reading_takes bytes v fits e = found v (reads bytes fits) e

framed_is : (v : Datagram) → framed (version_code (version_of v)) (kind_number (kind_of v)) (body v) ≡ spelling v
framed_is v = ap (λ (n : ℕ). framed (version_code (version_of v)) n (body v)) (code_of_kind v)

pub reading_again : (v : Datagram) → IsDatagram v → reading (spelling v) ≡ Ok v
unfolding reading
reading_again v fits = ap reading (sym (framed_is v)) ∙ rw (frame_again (version_of v) (kind_of v) (body v) (has_kind v) (body_short v fits)) (body_again v fits)

-- there is one datagram of a spelling
pub one_datagram : (v w : Datagram) → IsDatagram v → IsDatagram w → spelling v ≡ spelling w → v ≡ w
one_datagram v w hv hw e = let same = sym (reading_again v hv) ∙ ap reading e ∙ reading_again w hw in cc

-- ---- what the checks answer

pub is_fault : (bytes : List ℕ) (fault : ReadFault) → IsBytes bytes → reading bytes ≡ Err fault → IsFaultOf bytes fault
is_fault bytes faults.Memory fits e = absurd (never_memory (reads bytes fits) e)
is_fault bytes fault fits e = e

pub spells : (bytes : List ℕ) (v : Datagram) → IsBytes bytes → reading bytes ≡ Ok v → Spells bytes v
spells bytes v fits e = let t = reading_takes bytes v fits e in (t.1, t.0)

-- what is refused spells no datagram
pub no_spelling : (bytes : List ℕ) (v : Datagram) (fault : ReadFault) → reading bytes ≡ Err fault → Spells bytes v → ⊥
no_spelling bytes v fault e s = apart v fault (sym (reading_again v s.0) ∙ ap reading (sym s.1) ∙ e) where
  apart : (v : Datagram) (fault : ReadFault) → (let r : Result Datagram ReadFault = Ok v in let q : Result Datagram ReadFault = Err fault in r ≡ q) → ⊥
  apart v fault e = cc

pub same_datagram : (bytes : List ℕ) (v w : Datagram) → reading bytes ≡ Ok w → Spells bytes v → w ≡ v
same_datagram bytes v w e s = let same = sym e ∙ ap reading s.1 ∙ reading_again v s.0 in cc

-- ---- only whole datagrams are read: what ends before its end is short, what goes on behind it trails

-- a header that tells more bytes than there are, and one that tells fewer
cut : (version : Version) (kind : Kind) (bytes : List ℕ) (n : ℕ) → HasKind version kind → length bytes < 2 ^ 32 → n < 8 + length bytes → frame_at (take n (framed (version_code version) (kind_number kind) bytes)) ≡ Err Short
unfolding frame_at
cut version kind bytes (suc (suc (suc (suc (suc (suc (suc (suc n)))))))) has lt h =
    let back = from_be_bytes-to_be_bytes_4 (length bytes) lt in
    let len = length-take n bytes in
    let few : nat_le (length bytes) (length (take n bytes)) ≡ false = grind (arith, nat_tests) in
    rw (back, version_again version, kind_again version kind has, few) refl
cut version kind bytes n has lt h = refl

longer : (version : Version) (kind : Kind) (bytes : List ℕ) (b : ℕ) (rest : List ℕ) → HasKind version kind → length bytes < 2 ^ 32 → frame_at (framed (version_code version) (kind_number kind) bytes ++ b ∷ rest) ≡ Err Trailing
unfolding frame_at
longer version kind bytes b rest has lt =
    let back = from_be_bytes-to_be_bytes_4 (length bytes) lt in
    let len = length-append bytes (b ∷ rest) in
    let enough : nat_le (length bytes) (length (bytes ++ b ∷ rest)) ≡ true = le-leb _ _ (omega (arith, len)) in
    let many : nat_le (length (bytes ++ b ∷ rest)) (length bytes) ≡ false = grind (arith, nat_tests) in
    rw (back, version_again version, kind_again version kind has, enough, many) refl

pub prefix_short : (v : Datagram) (n : ℕ) → IsDatagram v → n < length (spelling v) → reading (take n (spelling v)) ≡ Err Short
unfolding reading
prefix_short v n fits h = rw (sym (framed_is v)) (rw (cut (version_of v) (kind_of v) (body v) n (has_kind v) (body_short v fits) (omega arith)) refl)

pub longer_trails : (v : Datagram) (b : ℕ) (rest : List ℕ) → IsDatagram v → reading (spelling v ++ b ∷ rest) ≡ Err Trailing
unfolding reading
longer_trails v b rest fits = ap (λ (bytes : List ℕ). reading (bytes ++ b ∷ rest)) (sym (framed_is v)) ∙ rw (longer (version_of v) (kind_of v) (body v) b rest (has_kind v) (body_short v fits)) refl

pub ruleset whole_datagrams = (prefix_short, longer_trails)

-- bytes, told by the members of a list
pub bytes_below : (bytes : List ℕ) → All (λ b. b < 256) bytes → IsBytes bytes
bytes_below bytes h i = grind (arith, common_steps)

pub spells_below : (bytes : List ℕ) (v : Datagram) → All (λ b. b < 256) bytes → reading bytes ≡ Ok v → Spells bytes v
spells_below bytes v h e = spells bytes v (bytes_below bytes h) e
