-- What one word says is spelled so, and what is spelled so is read.
use Rattle.std.proofs.lemmas.Grind.{common_steps}
use Rattle.std.proofs.Common.{◌≡◌, ℕ, ◌^◌, ◌<◌, ◌≤◌, Bool, true, false, Option, Some, None, List, [], ◌∷◌, ◌++◌, Ok, Result, refl, ap, ◌∙◌, arith}
use Rattle.std.specs.Prelude.{nat_eq, All, decimal, is_some, IfSome}
use Rattle.std.proofs.lemmas.List.Elements.{All-cons, All-append}
use Rattle.wb_names.specs.Values.{MarkValue}
use Rattle.wb_names.specs.Drawing.{seq_fault}
use Rattle.wb_names.specs.declared.name.PageId.{PageId}
use Rattle.wb_names.specs.declared.fault.FieldFault.{FieldFault}
use Rattle.wb_names.specs.declared.echo.Echo.{Echo}
use Rattle.wb_codec.specs.Ranges.{IsPage, IsMark, IsEcho}
use Rattle.wb_names.specs.Ascending.{is_above}
use Rattle.wb_codec.proofs.DrawopLaws.{seq_counted, seq_free}
use Rattle.wb_codec.proofs.EntryLaws.{MarkFits, EchoFits, mark_source, echo_source}
use Rattle.wb_words.specs.declared.fault.WordFault.{WordFault}
use Rattle.wb_words.specs.declared.fault.WrongWord.{WrongWord}
use Rattle.wb_words.specs.declared.fault.WordFault.TheVariants.{Order}
use Rattle.wb_words.specs.Words.{◌>>=◌, split_once, most32, most64, number_in, pair_in, page_in, mark_in, echo_in}
use Rattle.wb_words.specs.Spelling.{page_word, mark_word, echo_word}
use Rattle.wb_words.specs.Reading
use Rattle.wb_words.specs.Reading.{said, in_range, mark_at, echo_at, is_echo}
use Rattle.wb_words.proofs.Numerals.{number_takes, number_again}
use Rattle.wb_words.proofs.Splitting.{split_once_takes, split_once_again, split_once_none, decimal_lacks, NoSpace}
use Rattle.wb_words.proofs.EntryLists.{EntryTaken, Reads, requires}

-- what was found has P
pub record Finds {A : Type 0} (P : A → Type 0) (o : Option A) : Type 0 where
  pub it : IfSome o P

pub says : {A : Type 0} {P : A → Type 0} (x : A) → P x → Finds P (Some x)
says x h = record { it = h }

some_then : {A B : Type 0} {Q : B → Type 0} (o : Option A) (f : A → Option B) → ((x : A) → o ≡ Some x → Finds Q (f x)) → Finds Q (o >>= f)
some_then (Some x) f h = h x refl
some_then None f h = record { it = tt }

-- what a word says, and what follows it
pub said_step : {A B : Type 0} {P : A → Type 0} {Q : B → Type 0} {o : Option A} (place : ℕ) (fault : WordFault) (f : A → Result B WrongWord) → Finds P o → ((x : A) → P x → Reads Q (f x)) → Reads Q (Reading.◌>>=◌ (said place fault o) f)
said_step {o = Some x} place fault f h k = k x h.it
said_step {o = None} place fault f h k = record { it = tt }

pub ranged : {A B : Type 0} {Q : B → Type 0} (place : ℕ) (o : Option FieldFault) (x : A) (f : A → Result B WrongWord) → (o ≡ None → Reads Q (f x)) → Reads Q (Reading.◌>>=◌ (in_range place o x) f)
ranged place None x f h = h refl
ranged place (Some fault) x f h = record { it = tt }

pub number_finds : (most : ℕ) (word : List ℕ) → Finds (λ n. (word ≡ decimal n) × (n ≤ most)) (number_in most word)
number_finds most word = of (number_in most word) refl where
  of : (o : Option ℕ) → number_in most word ≡ o → Finds (λ n. (word ≡ decimal n) × (n ≤ most)) o
  of (Some n) e = says n (number_takes most n word e)
  of None e = record { it = tt }

below32 : (n : ℕ) → n ≤ most32 → n < 2 ^ 32
below32 n le = omega arith

up_to32 : (n : ℕ) → n < 2 ^ 32 → n ≤ most32
up_to32 n lt = omega arith

pub again32 : (n : ℕ) → n < 2 ^ 32 → number_in most32 (decimal n) ≡ Some n
again32 n lt = number_again most32 n (up_to32 n lt) (omega arith)

pub again64 : (n : ℕ) → n < 2 ^ 64 → number_in most64 (decimal n) ≡ Some n
again64 n lt = grind (arith, common_steps, number_again)

-- ---- two numbers with a mark between them, as pages and marks are

found_then : {A B : Type 0} {P : A → Type 0} {Q : B → Type 0} {o : Option A} (f : A → Option B) → Finds P o → ((x : A) → P x → Finds Q (f x)) → Finds Q (o >>= f)
found_then {o = Some x} f h k = k x h.it
found_then {o = None} f h k = record { it = tt }

pair_finds : (mark : ℕ) (word : List ℕ) → Finds (λ p. (word ≡ decimal p.0 ++ mark ∷ decimal p.1) × (p.0 < 2 ^ 32) × (p.1 < 2 ^ 32)) (pair_in mark word)
unfolding pair_in
pair_finds mark word = some_then (split_once mark word) _ (λ p ep. found_then _ (number_finds most32 p.0) (λ a ta. found_then _ (number_finds most32 p.1) (λ b tb.
    let spelled : word ≡ decimal a ++ mark ∷ decimal b = split_once_takes mark [] word p.0 p.1 ep ∙ ap (λ t. t ++ mark ∷ p.1) ta.0 ∙ ap (λ t. decimal a ++ mark ∷ t) tb.0 in
    says _ (spelled, below32 a ta.1, below32 b tb.1))))

pub page_finds : (word : List ℕ) → Finds (λ p. (word ≡ page_word p) × IsPage p) (page_in word)
unfolding page_in
page_finds word = found_then _ (pair_finds 47 word) (λ p t. says _ (t.0, record { creator = t.1; number = t.2 }))

pub page_again : (p : PageId) → IsPage p → page_in (page_word p) ≡ Some p
unfolding page_in pair_in
page_again p fits = grind (arith, common_steps, split_once_again, decimal_lacks, again32)

mark_finds : (word : List ℕ) → Finds (λ m. (word ≡ mark_word m) × IsMark m) (mark_in word)
unfolding mark_in
mark_finds word = found_then _ (pair_finds 61 word) (λ p t. says _ (t.0, record { source = t.1; high = t.2 }))

mark_again : (m : MarkValue) → IsMark m → mark_in (mark_word m) ≡ Some m
unfolding mark_in pair_in
mark_again m fits = grind (arith, common_steps, split_once_again, decimal_lacks, again32)

-- ---- echoes

echo_finds : (word : List ℕ) → Finds (λ v. (word ≡ echo_word v) × IsEcho v) (echo_in word)
unfolding echo_in
echo_finds word = some_then (split_once 64 word) _ (λ p ep. some_then (split_once 43 p.1) _ (λ m em.
    found_then _ (number_finds most32 p.0) (λ a ta. found_then _ (number_finds most64 m.0) (λ b tb. found_then _ (number_finds most64 m.1) (λ c tc.
    let moments : p.1 ≡ decimal b ++ 43 ∷ decimal c = split_once_takes 43 [] p.1 m.0 m.1 em ∙ ap (λ t. t ++ 43 ∷ m.1) tb.0 ∙ ap (λ t. decimal b ++ 43 ∷ t) tc.0 in
    let spelled : word ≡ decimal a ++ 64 ∷ (decimal b ++ 43 ∷ decimal c) = split_once_takes 64 [] word p.0 p.1 ep ∙ ap (λ t. t ++ 64 ∷ p.1) ta.0 ∙ ap (λ t. decimal a ++ 64 ∷ t) moments in
    says _ (spelled, record { source = below32 a ta.1; sent = omega (arith, tb.1); held = omega (arith, tc.1) }))))))

echo_again : (e : Echo) → IsEcho e → echo_in (echo_word e) ≡ Some e
unfolding echo_in
echo_again v fits = grind (arith, common_steps, split_once_again, decimal_lacks, again32, again64)

-- ---- entries of lists

pub mark_reads : (place : ℕ) (before : Option ℕ) (word : List ℕ) → Reads (EntryTaken mark_at mark_source is_echo mark_word MarkFits before word) (mark_at place before word)
unfolding mark_at
mark_reads place before word = said_step _ _ _ (mark_finds word) (λ m t. ranged place (seq_fault m.high) m _ (λ counted. requires (is_above before m.source) place Order m (λ above. record {
  word = t.0;
  fits = record { ranges = t.1; positive = seq_counted m.high counted };
  above = above;
})))

pub mark_spelled : (place : ℕ) (before : Option ℕ) (m : MarkValue) → MarkFits m → is_above before (mark_source m) ≡ true → mark_at place before (mark_word m) ≡ Ok m
unfolding mark_at
mark_spelled place before m fits above = grind (arith, common_steps, mark_again, seq_free)

pub echo_reads : (stops : List ℕ → Bool) (place : ℕ) (before : Option ℕ) (word : List ℕ) → Reads (EntryTaken echo_at echo_source stops echo_word EchoFits before word) (echo_at place before word)
unfolding echo_at
echo_reads stops place before word = said_step _ _ _ (echo_finds word) (λ v t. requires (is_above before v.source) place Order v (λ above. record { word = t.0; fits = record { ranges = t.1; positive = tt }; above = above }))

pub echo_spelled : (place : ℕ) (before : Option ℕ) (v : Echo) → EchoFits v → is_above before (echo_source v) ≡ true → echo_at place before (echo_word v) ≡ Ok v
unfolding echo_at
echo_spelled place before v fits above = rw (echo_again v fits.ranges, above) refl

-- which words are echoes

pub mark_goes : (m : MarkValue) → MarkFits m → is_echo (mark_word m) ≡ false
mark_goes m fits =
    let source : m.source < 2 ^ 64 = omega (arith, fits.ranges.source) in
    let high : m.high < 2 ^ 64 = omega (arith, fits.ranges.high) in
    let none : All (λ b. nat_eq b 64 ≡ false) (mark_word m) = All-append (λ b. nat_eq b 64 ≡ false) (decimal m.source) (61 ∷ decimal m.high) (decimal_lacks 64 m.source (omega arith) source) (All-cons (λ b. nat_eq b 64 ≡ false) 61 (decimal m.high) refl (decimal_lacks 64 m.high (omega arith) high)) in
    ap is_some (split_once_none 64 [] (mark_word m) none)

pub echo_stops : (v : Echo) → IsEcho v → is_echo (echo_word v) ≡ true
echo_stops v fits = grind (arith, common_steps, split_once_again, decimal_lacks)

-- no word but a text has a space

pub decimal_space : (n : ℕ) → n < 2 ^ 64 → NoSpace (decimal n)
decimal_space n lt = decimal_lacks 32 n (omega arith) lt

two_space : (mark m n : ℕ) → nat_eq mark 32 ≡ false → m < 2 ^ 64 → n < 2 ^ 64 → NoSpace (decimal m ++ mark ∷ decimal n)
two_space mark m n other hm hn = grind (arith, common_steps, All-append, decimal_space, All-cons)

pub page_space : (p : PageId) → IsPage p → NoSpace (page_word p)
page_space p fits = grind (arith, common_steps, two_space)

pub mark_space : (m : MarkValue) → IsMark m → NoSpace (mark_word m)
mark_space m fits = grind (arith, common_steps, two_space)

pub echo_space : (v : Echo) → IsEcho v → NoSpace (echo_word v)
echo_space v fits = All-append (λ b. nat_eq b 32 ≡ false) (decimal v.source) (64 ∷ (decimal v.sent ++ 43 ∷ decimal v.held)) (decimal_space v.source (omega (arith, fits.source)))
    (All-cons (λ b. nat_eq b 32 ≡ false) 64 (decimal v.sent ++ 43 ∷ decimal v.held) refl (two_space 43 v.sent v.held refl fits.sent fits.held))
