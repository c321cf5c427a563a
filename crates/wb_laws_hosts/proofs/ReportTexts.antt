-- A text of a report tells the report, and that of gaps whether there are any.
use Rattle.std.proofs.Common.{◌≡◌, ℕ, suc, ◌<◌, ◌≤◌, ◌^◌, false, List, [], ◌∷◌, ◌++◌, length, refl, sym, ap, ◌∙◌, subst, arith, append_assoc, length-append}
use Rattle.std.specs.Prelude.{nat_eq, All, codes, decimal, drop}
use Rattle.std.specs.List.{flat_map}
use Rattle.std.proofs.lemmas.Bool.Decides.{nat_tests}
use Rattle.std.proofs.lemmas.Fmt.{decimal_digit, decimal_injective}
use Rattle.wb_names.specs.Values.{MarkValue}
use Rattle.wb_names.specs.declared.gap.Gap.{Gap}
use Rattle.wb_words.proofs.Splitting.{decimal_lacks}
use Rattle.wb_commands.specs.Answers.{gap_line, gaps_text, pair_line, report_text}
use Rattle.wb_progress.proofs.Parts.{heads, tails}

-- ---- a text up to a byte

abbrev Lacks : ℕ → List ℕ → Type 0
Lacks mark text = All (λ b. nat_eq b mark ≡ false) text

first_lacks : (mark b : ℕ) (text : List ℕ) → Lacks mark (b ∷ text) → nat_eq b mark ≡ false
first_lacks mark b text l = l 0 b (omega arith)

rest_lacks : (mark b : ℕ) (text : List ℕ) → Lacks mark (b ∷ text) → Lacks mark text
rest_lacks mark b text l = λ k d lt. l (suc k) d (omega arith)

not_itself : (mark : ℕ) → nat_eq mark mark ≡ false → ⊥
not_itself mark e = grind (arith, nat_tests)

parted_once : (mark : ℕ) (xs ys a b : List ℕ) → Lacks mark xs → Lacks mark ys → xs ++ mark ∷ a ≡ ys ++ mark ∷ b → (xs ≡ ys) × (a ≡ b)
parted_once mark [] [] a b l r e = (refl, tails mark mark a b e)
parted_once mark [] (y ∷ ys) a b l r e = absurd (not_itself mark (subst (λ (n : ℕ). nat_eq n mark ≡ false) (sym (heads mark y a (ys ++ mark ∷ b) e)) (first_lacks mark y ys r)))
parted_once mark (x ∷ xs) [] a b l r e = absurd (not_itself mark (subst (λ (n : ℕ). nat_eq n mark ≡ false) (heads x mark (xs ++ mark ∷ a) b e) (first_lacks mark x xs l)))
parted_once mark (x ∷ xs) (y ∷ ys) a b l r e =
    let more = parted_once mark xs ys a b (rest_lacks mark x xs l) (rest_lacks mark y ys r) (tails x y (xs ++ mark ∷ a) (ys ++ mark ∷ b) e) in
    (ap (λ (n : ℕ). n ∷ xs) (heads x y (xs ++ mark ∷ a) (ys ++ mark ∷ b) e) ∙ ap (λ (t : List ℕ). y ∷ t) more.0, more.1)

number_once : (mark m n : ℕ) (a b : List ℕ) → Lacks mark (decimal m) → Lacks mark (decimal n) → m < 2 ^ 64 → n < 2 ^ 64 → decimal m ++ mark ∷ a ≡ decimal n ++ mark ∷ b → (m ≡ n) × (a ≡ b)
number_once mark m n a b l r small few e = let p = parted_once mark (decimal m) (decimal n) a b l r e in (decimal_injective m n small few p.0, p.1)

-- ---- a report

-- both numbers of a mark are in range
pub record IsSmall (m : MarkValue) : Type 0 where
  pub source : m.source < 2 ^ 64
  pub high : m.high < 2 ^ 64

abbrev pair : MarkValue → List ℕ
pair m = pair_line m.source m.high

spread : (m : MarkValue) (rest : List ℕ) → pair m ++ rest ≡ decimal m.source ++ 32 ∷ (decimal m.high ++ 10 ∷ rest)
spread m rest = append_assoc (decimal m.source) (32 ∷ (decimal m.high ++ 10 ∷ [])) rest ∙ ap (λ (t : List ℕ). decimal m.source ++ 32 ∷ t) (append_assoc (decimal m.high) (10 ∷ []) rest)

mark_is : (m n : MarkValue) → m.source ≡ n.source → m.high ≡ n.high → m ≡ n
mark_is m n s h = ap (λ (k : ℕ). let x : MarkValue = record { source = k; high = m.high } in x) s ∙ ap (λ (k : ℕ). let x : MarkValue = record { source = n.source; high = k } in x) h

longer : (a b rest : List ℕ) → 2 ≤ length (a ++ 32 ∷ (b ++ 10 ∷ rest))
longer a b rest = let one = length-append a (32 ∷ (b ++ 10 ∷ rest)) in let two = length-append b (10 ∷ rest) in omega arith

none_is_some : (m : MarkValue) (rest : List ℕ) → [] ≡ pair m ++ rest → ⊥
none_is_some m rest e =
    let l = longer (decimal m.source) (decimal m.high) rest in
    let same : length (pair m ++ rest) ≡ length (decimal m.source ++ 32 ∷ (decimal m.high ++ 10 ∷ rest)) = ap length (spread m rest) in
    let none : 0 ≡ length (pair m ++ rest) = ap length e in
    omega arith

marks_once : (ms ns : List MarkValue) → All IsSmall ms → All IsSmall ns → flat_map pair ms ≡ flat_map pair ns → ms ≡ ns
marks_once [] [] l r e = refl
marks_once [] (n ∷ ns) l r e = absurd (none_is_some n (flat_map pair ns) e)
marks_once (m ∷ ms) [] l r e = absurd (none_is_some m (flat_map pair ms) (sym e))
marks_once (m ∷ ms) (n ∷ ns) l r e =
    let a = l 0 m (omega arith) in
    let b = r 0 n (omega arith) in
    let first = number_once 32 m.source n.source (decimal m.high ++ 10 ∷ flat_map pair ms) (decimal n.high ++ 10 ∷ flat_map pair ns) (decimal_lacks 32 m.source (omega arith) a.source) (decimal_lacks 32 n.source (omega arith) b.source) a.source b.source (sym (spread m (flat_map pair ms)) ∙ e ∙ spread n (flat_map pair ns)) in
    let second = number_once 10 m.high n.high (flat_map pair ms) (flat_map pair ns) (decimal_lacks 10 m.high (omega arith) a.high) (decimal_lacks 10 n.high (omega arith) b.high) a.high b.high first.1 in
    let rest = marks_once ms ns (λ k d lt. l (suc k) d (omega arith)) (λ k d lt. r (suc k) d (omega arith)) second.1 in
    ap (λ (x : MarkValue). x ∷ ms) (mark_is m n first.0 second.0) ∙ ap (λ (xs : List MarkValue). n ∷ xs) rest

counted : (marks : List MarkValue) → report_text marks ≡ codes "report " ++ (decimal (length marks) ++ 10 ∷ flat_map pair marks)
counted marks = append_assoc (codes "report ") (decimal (length marks) ++ 10 ∷ []) (flat_map pair marks) ∙ ap (λ (t : List ℕ). codes "report " ++ t) (append_assoc (decimal (length marks)) (10 ∷ []) (flat_map pair marks))

-- One text, one report.
pub report_once : (ms ns : List MarkValue) → All IsSmall ms → All IsSmall ns → length ms < 2 ^ 64 → length ns < 2 ^ 64 → report_text ms ≡ report_text ns → ms ≡ ns
report_once ms ns l r few small e =
    let same : decimal (length ms) ++ 10 ∷ flat_map pair ms ≡ decimal (length ns) ++ 10 ∷ flat_map pair ns = ap (drop 7) (sym (counted ms) ∙ e ∙ counted ns) in
    let lines = number_once 10 (length ms) (length ns) (flat_map pair ms) (flat_map pair ns) (decimal_lacks 10 (length ms) (omega arith) few) (decimal_lacks 10 (length ns) (omega arith) small) few small same in
    marks_once ms ns l r lines.1

-- ---- gaps

gap_long : (g : Gap) → 3 ≤ length (gap_line g)
gap_long g =
    let a = length-append (decimal g.source) (codes " " ++ (decimal g.first ++ (codes " " ++ (decimal g.last ++ codes "\n")))) in
    let b = length-append (decimal g.first) (codes " " ++ (decimal g.last ++ codes "\n")) in
    let c = length-append (decimal g.last) (codes "\n") in
    omega arith

pub digit_0 : decimal 0 ≡ 48 ∷ []
digit_0 = decimal_digit 0 (omega arith)

pub digit_1 : decimal 1 ≡ 49 ∷ []
digit_1 = decimal_digit 1 (omega arith)

pub differ : (m n : ℕ) → m < n → m ≡ n → ⊥
differ m n lt e = omega arith

pub none_length : length (gaps_text []) ≡ 7
none_length = ap (λ (d : List ℕ). length (codes "gaps " ++ (d ++ codes "\n") ++ [])) digit_0

pub some_printed : [] ≡ gaps_text [] → ⊥
some_printed e = differ 0 7 (omega arith) (ap (λ (t : List ℕ). length t) e ∙ none_length)

-- The text of no gaps is that of no others.
pub none_are_told : (gaps : List Gap) → gaps_text gaps ≡ gaps_text [] → gaps ≡ []
none_are_told [] e = refl
none_are_told (g ∷ gaps) e =
    let lines = flat_map gap_line (g ∷ gaps) in
    let n = length (g ∷ gaps) in
    let a = length-append (codes "gaps " ++ (decimal n ++ codes "\n")) lines in
    let b = length-append (decimal n) (codes "\n") in
    let c = length-append (gap_line g) (flat_map gap_line gaps) in
    let d = gap_long g in
    let same : length (gaps_text (g ∷ gaps)) ≡ 7 = ap (λ (t : List ℕ). length t) e ∙ none_length in
    absurd (omega arith)
