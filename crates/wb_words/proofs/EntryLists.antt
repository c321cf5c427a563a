-- Lists of entries, one word after another.
use Rattle.std.proofs.lemmas.Grind.{common_steps}
use Rattle.std.proofs.Common.{◌≡◌, ℕ, suc, ◌+◌, ◌<◌, ◌≤◌, Bool, true, false, cond, Option, Some, None, List, [], ◌∷◌, ◌++◌, length, get_or, Result, Ok, Err, refl, sym, ap, subst, ◌∙◌, append_assoc, append-nil, arith}
use Rattle.std.specs.Prelude.{nat_lt, All, AllPairs, IfOk, map}
use Rattle.std.proofs.lemmas.Bool.{ltb-true, lt-ltb}
use Rattle.std.proofs.lemmas.Bool.Decides.{nat_tests}
use Rattle.std.proofs.lemmas.List.{length-append}
use Rattle.std.proofs.lemmas.List.Elements.{All-cons, All-head, All-tail}
use Rattle.std.proofs.lemmas.List.Kept.{AllPairs-cons}
use Rattle.wb_names.specs.Ascending.{is_above}
use Rattle.wb_codec.specs.Ranges.{IsEntryList}
use Rattle.wb_codec.proofs.EntryLaws.{EntryFits}
use Rattle.wb_words.specs.declared.fault.WrongWord.{WrongWord}
use Rattle.wb_words.specs.declared.fault.WordFault.{WordFault}
use Rattle.wb_words.specs.declared.fault.WordFault.TheVariants.{TooMany}
use Rattle.wb_words.specs.Reading.{◌>>=◌, require, wrong, entries_at, left_at}
use Rattle.wb_names.specs.declared.entries.TheConstants.{MAX_ENTRIES}

-- ---- steps and checks

abbrev done : {A : Type 0} → A → Result A WrongWord
done x = Ok x

pub ok_is : {A : Type 0} (x y : A) → done x ≡ done y → x ≡ y
ok_is x y e = cc

-- what was read has P
pub record Reads {A : Type 0} (P : A → Type 0) (r : Result A WrongWord) : Type 0 where
  pub it : IfOk r P

pub found : {A : Type 0} {P : A → Type 0} {r : Result A WrongWord} (x : A) → Reads P r → r ≡ Ok x → P x
found {P = P} x h e = (subst (Reads P) e h).it

pub gives : {A : Type 0} {P : A → Type 0} (x : A) → P x → Reads P (Ok x)
gives x h = record { it = h }

pub weaker : {A : Type 0} {P Q : A → Type 0} {r : Result A WrongWord} → Reads P r → ((x : A) → P x → Q x) → Reads Q r
weaker {r = Ok x} h k = record { it = k x h.it }
weaker {r = Err wrong} h k = record { it = tt }

pub step : {A B : Type 0} {P : A → Type 0} {Q : B → Type 0} {r : Result A WrongWord} (f : A → Result B WrongWord) → Reads P r → ((x : A) → P x → Reads Q (f x)) → Reads Q (r >>= f)
step {r = Ok x} f h k = k x h.it
step {r = Err wrong} f h k = record { it = tt }

pub required : {A B : Type 0} {Q : B → Type 0} (b : Bool) (place : ℕ) (fault : WordFault) (x : A) (f : A → Result B WrongWord) → (b ≡ true → Reads Q (f x)) → Reads Q (require b place fault x >>= f)
required true place fault x f h = h refl
required false place fault x f h = record { it = tt }

pub requires : {A : Type 0} {P : A → Type 0} (b : Bool) (place : ℕ) (fault : WordFault) (x : A) → (b ≡ true → P x) → Reads P (require b place fault x)
requires true place fault x h = record { it = h refl }
requires false place fault x h = record { it = tt }

-- the first where a test holds, else the second
chosen : {A : Type 0} {P : A → Type 0} (b : Bool) (r s : Result A WrongWord) → (b ≡ true → Reads P r) → (b ≡ false → Reads P s) → Reads P (cond b r s)
chosen true r s h k = h refl
chosen false r s h k = k refl

-- these entries before those that are still to be read
abbrev pub onto : {X : Type 0} → List X → Result (List X) WrongWord → Result (List X) WrongWord
onto xs (Ok read) = Ok (xs ++ read)
onto xs (Err fault) = Err fault

onto_onto : {X : Type 0} (xs ys : List X) (r : Result (List X) WrongWord) → onto xs (onto ys r) ≡ onto (xs ++ ys) r
onto_onto xs ys (Ok zs) = ap (λ (l : List _). Ok l) (sym (append_assoc xs ys zs))
onto_onto xs ys (Err fault) = refl

onto_one : {X : Type 0} (x : X) (r : Result (List X) WrongWord) → (r >>= λ others. Ok (x ∷ others)) ≡ onto (x ∷ []) r
onto_one x (Ok xs) = refl
onto_one x (Err fault) = refl

-- entries end where these words begin
abbrev pub Stopped : (List ℕ → Bool) → List (List ℕ) → Type 0
Stopped stops [] = Unit {0}
Stopped stops (w ∷ ws) = stops w ≡ true

module _ {X : Type 0} (entry_at : ℕ → Option ℕ → List ℕ → Result X WrongWord) (source : X → ℕ) (stops : List ℕ → Bool) where
  abbrev read : ℕ → ℕ → Option ℕ → List (List ℕ) → Result (List X) WrongWord
  read = entries_at entry_at source stops

  -- what is left to read, where these entries are read
  pub record HasRead (place : ℕ) (ws : List (List ℕ)) (before : Option ℕ) (rest : List (List ℕ)) (xs : List X) : Type 0 where
    pub so_far : entries_at entry_at source stops place 0 None ws ≡ onto xs (entries_at entry_at source stops (place + length xs) (length xs) before rest)
    pub few : length xs ≤ MAX_ENTRIES

  read_one : (place n : ℕ) (before : Option ℕ) (w : List ℕ) (after : List (List ℕ)) (x : X) → stops w ≡ false → n < MAX_ENTRIES → entry_at place before w ≡ Ok x
      → read place n before (w ∷ after) ≡ onto (x ∷ []) (read (place + 1) (n + 1) (Some (source x)) after)
  unfolding entries_at
  read_one place n before w after x goes few e = grind (arith, common_steps, lt-ltb, onto_one)

  -- one entry more was read, and put to the others
  pub read_pushed : (place : ℕ) (ws : List (List ℕ)) (before : Option ℕ) (rest : List (List ℕ)) (w : List ℕ) (after : List (List ℕ)) (xs : List X) (x : X) (here last : ℕ) (ys : List X) → HasRead place ws before rest xs → rest ≡ w ∷ after → stops w ≡ false → length xs < MAX_ENTRIES → here ≡ place + length xs → entry_at here before w ≡ Ok x → last ≡ source x → ys ≡ xs ++ x ∷ []
      → HasRead place ws (Some last) after ys
  read_pushed place ws before rest w after xs x here last ys h is goes few at-is e source-is pushed =
      let entry : entry_at (place + length xs) before w ≡ Ok x = ap (λ (p : ℕ). entry_at p before w) (sym at-is) ∙ e in
      let one = read_one (place + length xs) (length xs) before w after x goes few entry in
      let both = onto_onto xs (x ∷ []) (read (place + length xs + 1) (length xs + 1) (Some (source x)) after) in
      let count : length xs + 1 ≡ length ys = omega (arith, ap length pushed, length-append xs (x ∷ [])) in
      let there : place + length xs + 1 ≡ place + length ys = omega arith in
      record { so_far = cc; few = omega arith }

  pub read_stops : (place : ℕ) (ws : List (List ℕ)) (before : Option ℕ) (rest : List (List ℕ)) (w : List ℕ) (after : List (List ℕ)) (xs : List X) (e : WrongWord) (here : ℕ) → HasRead place ws before rest xs → rest ≡ w ∷ after → stops w ≡ false → length xs < MAX_ENTRIES → here ≡ place + length xs → entry_at here before w ≡ Err e
      → entries_at entry_at source stops place 0 None ws ≡ Err e
  unfolding entries_at
  read_stops place ws before rest w after xs e here h is goes few at-is refused = grind (arith, common_steps, lt-ltb)

  pub read_many : (place : ℕ) (ws : List (List ℕ)) (before : Option ℕ) (rest : List (List ℕ)) (w : List ℕ) (after : List (List ℕ)) (xs : List X) → HasRead place ws before rest xs → rest ≡ w ∷ after → stops w ≡ false → MAX_ENTRIES ≤ length xs
      → entries_at entry_at source stops place 0 None ws ≡ wrong (place + length xs) TooMany
  unfolding entries_at
  read_many place ws before rest w after xs h is goes many = grind (arith, common_steps, nat_tests)

  pub read_all : (place : ℕ) (ws : List (List ℕ)) (before : Option ℕ) (rest : List (List ℕ)) (xs : List X) → HasRead place ws before rest xs → rest ≡ [] → entries_at entry_at source stops place 0 None ws ≡ Ok xs
  unfolding entries_at
  read_all place ws before rest xs h is = grind (arith, common_steps, append-nil)

  pub read_until : (place : ℕ) (ws : List (List ℕ)) (before : Option ℕ) (rest : List (List ℕ)) (w : List ℕ) (after : List (List ℕ)) (xs : List X) → HasRead place ws before rest xs → rest ≡ w ∷ after → stops w ≡ true → entries_at entry_at source stops place 0 None ws ≡ Ok xs
  unfolding entries_at
  read_until place ws before rest w after xs h is stop = grind (arith, common_steps, append-nil)

  -- ---- what was read, and what is read again

  pub record EntryTaken (spell : X → List ℕ) (Fits : X → Type 0) (before : Option ℕ) (w : List ℕ) (x : X) : Type 0 where
    pub word : w ≡ spell x
    pub fits : Fits x
    pub above : is_above before (source x) ≡ true

  module _ (spell : X → List ℕ) (IsPositive IsEntry : X → Type 0) where
    abbrev Fits : X → Type 0
    Fits = EntryFits IsPositive IsEntry

    record ListTaken (n : ℕ) (before : Option ℕ) (ws : List (List ℕ)) (xs : List X) : Type 0 where
      words : ws ≡ map spell xs ++ left_at stops ws
      fits : All Fits xs
      ascending : AllPairs (λ a b. source a < source b) xs
      above : All (λ a. is_above before (source a) ≡ true) xs
      few : n + length xs ≤ MAX_ENTRIES

    taken_none : (n : ℕ) (before : Option ℕ) (ws : List (List ℕ)) → n ≤ MAX_ENTRIES → left_at stops ws ≡ ws → ListTaken n before ws []
    taken_none n before ws few is = record {
      words = sym is;
      fits = λ k d h. absurd (omega arith);
      ascending = λ i j d ij h. absurd (omega arith);
      above = λ k d h. absurd (omega arith);
      few = omega arith;
    }

    above_later : (before : Option ℕ) (s t : ℕ) → is_above before s ≡ true → is_above (Some s) t ≡ true → is_above before t ≡ true
    above_later None s t e f = refl
    above_later (Some b) s t e f = lt-ltb b t (omega (arith, ltb-true b s e, ltb-true s t f))

    taken_more : (n : ℕ) (before : Option ℕ) (w : List ℕ) (ws : List (List ℕ)) (x : X) (xs : List X) → stops w ≡ false → EntryTaken spell Fits before w x → ListTaken (n + 1) (Some (source x)) ws xs → ListTaken n before (w ∷ ws) (x ∷ xs)
    taken_more n before w ws x xs goes t ts =
        let left : left_at stops (w ∷ ws) ≡ left_at stops ws = rw goes refl in
        let front : w ∷ ws ≡ spell x ∷ (map spell xs ++ left_at stops ws) = ap (λ v. v ∷ ws) t.word ∙ ap (λ vs. spell x ∷ vs) ts.words in
        record {
          words = front ∙ ap (λ vs. spell x ∷ (map spell xs ++ vs)) (sym left);
          fits = All-cons Fits x xs t.fits ts.fits;
          ascending = AllPairs-cons (λ (a b : X). source a < source b) x xs (λ k d h. ltb-true (source x) (source (get_or xs k d)) (ts.above k d h)) ts.ascending;
          above = All-cons (λ (a : X). is_above before (source a) ≡ true) x xs t.above (λ k d h. above_later before (source x) (source (get_or xs k d)) t.above (ts.above k d h));
          few = omega (arith, ts.few);
        }

    abbrev EntryReads : Type 0
    EntryReads = (place : ℕ) (before : Option ℕ) (w : List ℕ) → Reads (EntryTaken spell Fits before w) (entry_at place before w)

    entries_read : EntryReads → (place n : ℕ) (before : Option ℕ) (ws : List (List ℕ)) → n ≤ MAX_ENTRIES → Reads (ListTaken n before ws) (entries_at entry_at source stops place n before ws)
    unfolding entries_at
    entries_read entry place n before [] few = gives _ (taken_none n before [] few refl)
    entries_read entry place n before (w ∷ ws) few = chosen (stops w) _ _
        (λ (h : stops w ≡ true). gives _ (taken_none n before (w ∷ ws) few (rw h refl)))
        (λ (h : stops w ≡ false). required (nat_lt n MAX_ENTRIES) place TooMany w _ (λ room.
        let more : n + 1 ≤ MAX_ENTRIES = omega (arith, ltb-true n MAX_ENTRIES room) in
        step _ (entry place before w) (λ x t. step _ (entries_read entry (place + 1) (n + 1) (Some (source x)) ws more) (λ xs ts. gives _ (taken_more n before w ws x xs h t ts)))))

    pub list_reads : EntryReads → (place : ℕ) (ws : List (List ℕ)) → Reads (λ xs. (ws ≡ map spell xs ++ left_at stops ws) × IsEntryList source IsPositive IsEntry xs) (entries_at entry_at source stops place 0 None ws)
    list_reads entry place ws = weaker (entries_read entry place 0 None ws (omega arith)) (λ xs t. (
      t.words,
      record {
        lawful = record { ascending = t.ascending; positive = λ k d h. (t.fits k d h).positive; few = omega (arith, t.few) };
        ranges = λ k d h. (t.fits k d h).ranges;
      },
    ))

    stopped_ends : (place n : ℕ) (before : Option ℕ) (ws : List (List ℕ)) → Stopped stops ws → read place n before ws ≡ Ok []
    unfolding entries_at
    stopped_ends place n before [] h = refl
    stopped_ends place n before (w ∷ ws) h = rw h refl

    entries_again : ((place : ℕ) (before : Option ℕ) (x : X) → Fits x → is_above before (source x) ≡ true → entry_at place before (spell x) ≡ Ok x) → ((x : X) → Fits x → stops (spell x) ≡ false)
        → (xs : List X) (place n : ℕ) (before : Option ℕ) (rest : List (List ℕ)) → Stopped stops rest → n + length xs ≤ MAX_ENTRIES → All Fits xs → AllPairs (λ a b. source a < source b) xs → All (λ a. is_above before (source a) ≡ true) xs
        → entries_at entry_at source stops place n before (map spell xs ++ rest) ≡ Ok xs
    unfolding entries_at
    entries_again again goes [] place n before rest ended few fits up above = stopped_ends place n before rest ended
    entries_again again goes (x ∷ xs) place n before rest ended few fits up above =
        let higher : All (λ a. is_above (Some (source x)) (source a) ≡ true) xs = λ k d h. lt-ltb (source x) (source (get_or xs k d)) (up 0 (suc k) d (omega arith) (omega arith)) in
        let one = All-head Fits x xs fits in
        let first = again place before x one (All-head (λ (a : X). is_above before (source a) ≡ true) x xs above) in
        let test : nat_lt n MAX_ENTRIES ≡ true = lt-ltb n MAX_ENTRIES (omega arith) in
        let others = entries_again again goes xs (place + 1) (n + 1) (Some (source x)) rest ended (omega arith) (All-tail Fits x xs fits) (λ i j d ij h. up (suc i) (suc j) d (omega arith) (omega arith)) higher in
        rw (goes x one, test, first, others) refl

    left_again : ((x : X) → Fits x → stops (spell x) ≡ false) → (xs : List X) (rest : List (List ℕ)) → Stopped stops rest → All Fits xs → left_at stops (map spell xs ++ rest) ≡ rest
    left_again goes [] [] ended fits = refl
    left_again goes [] (w ∷ ws) ended fits = rw ended refl
    left_again goes (x ∷ xs) rest ended fits = rw (goes x (All-head Fits x xs fits)) (left_again goes xs rest ended (All-tail Fits x xs fits))

    pub entries_back : ((place : ℕ) (before : Option ℕ) (x : X) → Fits x → is_above before (source x) ≡ true → entry_at place before (spell x) ≡ Ok x) → ((x : X) → Fits x → stops (spell x) ≡ false)
        → (place : ℕ) (xs : List X) (rest : List (List ℕ)) → Stopped stops rest → IsEntryList source IsPositive IsEntry xs
        → (entries_at entry_at source stops place 0 None (map spell xs ++ rest) ≡ Ok xs) × (left_at stops (map spell xs ++ rest) ≡ rest)
    entries_back again goes place xs rest ended h =
        let fits : All Fits xs = λ k d lt. record { ranges = h.ranges k d lt; positive = h.lawful.positive k d lt } in
        (entries_again again goes xs place 0 None rest ended (omega (arith, h.lawful.few)) fits h.lawful.ascending (λ k d lt. refl), left_again goes xs rest ended fits)
