-- A drawop that is read is the one that was written, and what was written is read again.
use Rattle.std.proofs.lemmas.Grind.{common_steps}
use Rattle.std.proofs.Common.{◌≡◌, ℕ, ◌<◌, Bool, true, Option, Some, refl, ◌^◌, ◌≤◌, false, cond, None, List, [], ◌∷◌, ◌++◌, length, take, drop, Result, Ok, sym, ap, subst, ◌∙◌, append_assoc, arith, append-nil}
use Rattle.std.specs.Prelude.{nat_eq, nat_lt, nat_le}
use Rattle.std.proofs.lemmas.Bool.{eqb-true, ltb-true, leb-true, le-leb}
use Rattle.wb_names.specs.Kinds.{every_kind, kind_with-key, kind_with-is, op_kind}
use Rattle.wb_names.specs.declared.parts.OpKind.{OpKind}
use Rattle.wb_codec.specs.declared.version.Version.{Version}
use Rattle.wb_codec.specs.declared.version.Version.TheVariants.{One, Two}
use Rattle.wb_codec.specs.Kinds.{op_code, op_kind_of, has_kind, first_version, is_version}
use Rattle.std.specs.Int.{w32, to_be_bytes, w64}
use Rattle.std.proofs.lemmas.Bool.Decides.{nat_tests}
use Rattle.std.proofs.lemmas.List.{take-append-drop, length-take}
use Rattle.wb_names.specs.Values.{NameValue, DrawopValue}
use Rattle.wb_names.specs.Drawing.{IsLawful, seq_fault}
use Rattle.wb_names.specs.declared.parts.Figure.{Figure}
use Rattle.wb_names.specs.declared.parts.Stroke.{Stroke}
use Rattle.wb_names.specs.declared.parts.Change.{Change}
use Rattle.wb_names.specs.declared.parts.Target.{Target}
use Rattle.wb_names.specs.declared.parts.Op.{Op}
use Rattle.wb_names.specs.declared.parts.Op.TheVariants.{Drawn, Text, Aimed}
use Rattle.wb_codec.specs.declared.fault.ReadFault.{ReadFault}
use Rattle.wb_codec.specs.declared.fault.ReadFault.TheVariants.{OpKind as OpKindFault}
use Rattle.wb_codec.specs.Ranges.{HasTarget, IsName, IsDrawop}
use Rattle.wb_codec.specs.Spelling.{stroke_bytes, text_bytes, target_bytes, field_bytes, op_bytes, op_version, name_bytes, drawop_bytes}
use Rattle.wb_codec.specs.Reading.{◌>>=◌, require, stroke_at, text_at, target_at, fields_at, kind_in_version, op_at, fault_in_version, drawop_at}
use Rattle.wb_codec.proofs.Bytes.{IsBytes, IsBytes-drop}
use Rattle.wb_codec.proofs.Lawful.{IsStroke, lawful_stroke, lawful_text}
use Rattle.wb_codec.proofs.FieldLaws.{Reads, gives, step, weaker, checks, Takes, Takes-then, reads8, ended, ranged, ranges, Takes-all, name_reads, name_again, HasWidth, has_width, number_again, number_reads, wide16, wide32, wide64}
use Rattle.wb_names.specs.Faults.{fault_unless}
use Rattle.wb_names.specs.declared.fault.FieldFault.TheVariants.{SeqZero}
use Rattle.wb_names.specs.declared.parts.OpKind.TheVariants as kinds

-- ---- a number tells a kind of operation, and each kind has one

pub code_back : (kind : OpKind) → op_kind_of (op_code kind) ≡ Some kind
unfolding op_kind_of
code_back kind = kind_with-key nat_eq op_code refl kind

pub code_is : (n : ℕ) (kind : OpKind) → op_kind_of n ≡ Some kind → n ≡ op_code kind
unfolding op_kind_of
code_is n kind e = kind_with-is nat_eq op_code eqb-true n kind e

pub code_below : (kind : OpKind) → op_code kind < 256
code_below kind = ltb-true _ _ (every_kind (λ k. nat_lt (op_code k) 256) refl kind)

-- ---- the fields of each kind

-- the bytes told the fields of an operation of this kind
record FieldsTaken (kind : OpKind) (bytes : List ℕ) (x : Op × List ℕ) : Type 0 where
  kind-is : op_kind x.0 ≡ kind
  taken : Takes bytes (field_bytes x.0) x.1
  target : HasTarget x.0

fields_read : (kind : OpKind) (bytes : List ℕ) → IsBytes bytes → Reads (FieldsTaken kind bytes) (fields_at kind bytes)
unfolding fields_at stroke_at text_at target_at
fields_read (kinds.Drawn figure) bytes fits = step _ (number_reads wide16 bytes fits) (λ a ta. step _ (number_reads wide16 a.1 ta.0.rest_fits) (λ b tb. step _ (number_reads wide16 b.1 tb.0.rest_fits) (λ c tc. step _ (number_reads wide16 c.1 tc.0.rest_fits) (λ d td. step _ (reads8 d.1 td.0.rest_fits) (λ g tg.
    let all = Takes-then _ _ _ _ _ (Takes-then _ _ _ _ _ (Takes-then _ _ _ _ _ (Takes-then _ _ _ _ _ ta.0 tb.0) tc.0) td.0) tg.0 in
    gives _ (record { kind-is = refl; taken = all; target = tt }))))))
fields_read kinds.Text bytes fits = step _ (number_reads wide16 bytes fits) (λ x tx. step _ (number_reads wide16 x.1 tx.0.rest_fits) (λ y ty. step _ (reads8 y.1 ty.0.rest_fits) (λ n tn. checks _ _ _ refl (λ (enough : nat_le n.0 (length n.1) ≡ true).
    let long : n.0 ≤ length n.1 = leb-true _ _ enough in
    let text : List ℕ = take n.0 n.1 in
    let len : length text ≡ n.0 = omega (arith, length-take n.0 n.1) in
    let front : Takes n.1 text (drop n.0 n.1) = record { parts = sym (take-append-drop n.0 n.1); rest_fits = IsBytes-drop n.0 n.1 tn.0.rest_fits } in
    let counted : Takes y.1 (length text ∷ []) n.1 = subst (λ (m : ℕ). Takes y.1 (m ∷ []) n.1) (sym len) tn.0 in
    record { kind-is = refl; taken = Takes-then _ _ _ _ _ (Takes-then _ _ _ _ _ (Takes-then _ _ _ _ _ tx.0 ty.0) counted) front; target = tt }))))
fields_read (kinds.Aimed change) bytes fits = step _ (number_reads wide32 bytes fits) (λ s ts. step _ (number_reads wide32 s.1 ts.0.rest_fits) (λ q tq. gives _ (record { kind-is = refl; taken = Takes-then _ _ _ _ _ ts.0 tq.0; target = (ts.1, tq.1) })))

stroke_again : (figure : Figure) (s : Stroke) (rest : List ℕ) → IsStroke s → stroke_at figure (stroke_bytes s ++ rest) ≡ Ok (Drawn figure s, rest)
unfolding stroke_at
stroke_again figure s rest fits = grind (arith, common_steps)

text_again : (x y : ℕ) (text rest : List ℕ) → x < 2 ^ 16 → y < 2 ^ 16 → text_at (text_bytes x y text ++ rest) ≡ Ok (Text x y text, rest)
unfolding text_at
text_again x y text rest fx fy = grind (arith, common_steps)

target_again : (change : Change) (t : Target) (rest : List ℕ) → t.source < 2 ^ 32 → t.seq < 2 ^ 32 → target_at change (target_bytes t ++ rest) ≡ Ok (Aimed change t, rest)
unfolding target_at
target_again change t rest fs fq = ap (target_at change) (append_assoc (to_be_bytes w32 t.source) (to_be_bytes w32 t.seq) rest) ∙ rw (number_again wide32 t.source (to_be_bytes w32 t.seq ++ rest) fs, number_again wide32 t.seq rest fq) refl

fields_again : (name : NameValue) (op : Op) (rest : List ℕ) → IsLawful name op → HasTarget op → fields_at (op_kind op) (field_bytes op ++ rest) ≡ Ok (op, rest)
unfolding fields_at
fields_again name (Drawn figure s) rest lawful target = stroke_again figure s rest (lawful_stroke s lawful)
fields_again name (Text x y text) rest lawful target = let t = lawful_text x y text lawful in text_again x y text rest (omega (arith, t.x-fits)) (omega (arith, t.y-fits))
fields_again name (Aimed change t) rest lawful target = target_again change t rest target.0 target.1

-- ---- operations

pub record OpTaken (version : Version) (bytes : List ℕ) (x : Op × List ℕ) : Type 0 where
  pub taken : Takes bytes (op_bytes x.0) x.1
  pub target : HasTarget x.0
  pub kind : has_kind version (op_kind x.0) ≡ true

version_kind_reads : (version : Version) (o : Option OpKind) → Reads (λ kind. (o ≡ Some kind) × (has_kind version kind ≡ true)) (kind_in_version version o)
version_kind_reads version None = record { it = refl }
version_kind_reads version (Some kind) = checks _ _ kind refl (λ has. (refl, has))

pub op_reads : (version : Version) (bytes : List ℕ) → IsBytes bytes → Reads (OpTaken version bytes) (op_at version bytes)
unfolding op_at
op_reads version bytes fits = step _ (reads8 bytes fits) (λ n tn. step _ (version_kind_reads version (op_kind_of n.0)) (λ k has. weaker (fields_read k n.1 tn.0.rest_fits) (λ x t.
    let number : n.0 ≡ op_code (op_kind x.0) = code_is n.0 k has.0 ∙ ap op_code (sym t.kind-is) in
    record {
      taken = Takes-then bytes (op_code (op_kind x.0) ∷ []) n.1 (field_bytes x.0) x.1 (subst (λ (m : ℕ). Takes bytes (m ∷ []) n.1) number tn.0) t.taken;
      target = t.target;
      kind = subst (λ (l : OpKind). has_kind version l ≡ true) (sym t.kind-is) has.1;
    })))

-- ---- the version of an operation

-- what is lawful has no fault in its version
pub no_fault_again : (name : NameValue) (op : Op) → IsLawful name op → fault_in_version (op_version op) name op ≡ None
no_fault_again name (Text x y text) e = by_length (nat_le (length text) 40) refl where
  by_length : (b : Bool) → nat_le (length text) 40 ≡ b → fault_in_version (cond b One Two) name (Text x y text) ≡ None
  by_length true h = grind (arith, nat_tests)
  by_length false h = grind (arith, nat_tests)
no_fault_again name op e = e

same_version : (v : Version) → is_version v v ≡ true
same_version One = refl
same_version Two = refl

its_version : (op : Op) → has_kind (op_version op) (op_kind op) ≡ true
its_version (Text x y text) = refl
its_version op = same_version (first_version (op_kind op))

pub op_again : (name : NameValue) (op : Op) (rest : List ℕ) → IsLawful name op → HasTarget op → op_at (op_version op) (op_bytes op ++ rest) ≡ Ok (op, rest)
unfolding op_at
op_again name op rest lawful target =
    let kind : kind_in_version (op_version op) (op_kind_of (op_code (op_kind op))) ≡ Ok (op_kind op) =
    ap (kind_in_version (op_version op)) (code_back (op_kind op)) ∙ ap (λ (b : Bool). require b OpKindFault (op_kind op)) (its_version op) in
    ap (λ (r : Result OpKind ReadFault). r >>= λ kind. fields_at kind (field_bytes op ++ rest)) kind ∙ fields_again name op rest lawful target

-- ---- drawops

pub seq_counted : (seq : ℕ) → seq_fault seq ≡ None → 1 ≤ seq
seq_counted seq e = grind (arith, nat_tests)

pub seq_free : (seq : ℕ) → 1 ≤ seq → seq_fault seq ≡ None
seq_free seq le = ap (λ (b : Bool). fault_unless b SeqZero) (le-leb 1 seq le)

pub named : (n : NameValue) → HasWidth n → seq_fault n.seq ≡ None → IsName n
named n h e = record { source = h.source; page = h.page; positive = seq_counted n.seq e; seq = h.seq }

pub record DrawopTaken (version : Version) (bytes : List ℕ) (d : DrawopValue) : Type 0 where
  pub parts : bytes ≡ drawop_bytes d
  pub fits : IsDrawop d
  pub version-is : op_version d.op ≡ version

drawn : (version : Version) (bytes : List ℕ) (name : NameValue) (time : ℕ) (op : Op) → bytes ≡ name_bytes name ++ to_be_bytes w64 time ++ op_bytes op → HasWidth name → time < 2 ^ 64 → HasTarget op → has_kind version (op_kind op) ≡ true → seq_fault name.seq ≡ None → fault_in_version version name op ≡ None → DrawopTaken version bytes (record { name = name; time = time; op = op })
drawn version bytes name time op parts width lt target kind seq free = grind (arith, common_steps)

pub drawop_reads : (version : Version) (bytes : List ℕ) → IsBytes bytes → Reads (DrawopTaken version bytes) (drawop_at version bytes)
unfolding drawop_at
drawop_reads version bytes fits = step _ (name_reads bytes fits) (λ n tn. step _ (number_reads wide64 n.1 tn.0.rest_fits) (λ t tm. step _ (op_reads version t.1 tm.0.rest_fits) (λ o to. ended o.1 o.0 _ (λ end. ranged (seq_fault n.0.seq) n.0 _ (λ counted. ranges (fault_in_version version n.0 o.0) _ (λ free.
    let all = Takes-all _ _ _ (Takes-then _ _ _ _ _ (Takes-then _ _ _ _ _ tn.0 tm.0) to.taken) end in
    drawn version bytes n.0 t.0 o.0 all tn.1 tm.1 to.target to.kind counted free))))))

pub drawop_again : (d : DrawopValue) → IsDrawop d → drawop_at (op_version d.op) (drawop_bytes d) ≡ Ok d
unfolding drawop_at
drawop_again d fits =
    let n = name_bytes d.name in
    let t = to_be_bytes w64 d.time in
    let o = op_bytes d.op in
    let regrouped : drawop_bytes d ≡ n ++ (t ++ (o ++ [])) = append_assoc n t o ∙ ap (λ (r : List ℕ). n ++ (t ++ r)) (sym (append-nil o)) in
    ap (drawop_at (op_version d.op)) regrouped ∙ rw (name_again d.name (t ++ (o ++ [])) (has_width d.name fits.name), number_again wide64 d.time (o ++ []) fits.time, op_again d.name d.op [] fits.lawful fits.target, seq_free d.name.seq fits.name.positive, no_fault_again d.name d.op fits.lawful) refl
