-- A line that hands in an arrival has no carriage return at its end.
use Rattle.std.proofs.Common.{◌≡◌, ℕ, ◌-◌, ◌^◌, ◌%◌, ◌⊎◌, Bool, true, false, cond, List, [], ◌∷◌, ◌++◌, length, Result, Ok, Err, inl, inr, refl, sym, ap, subst, ◌∙◌, arith, length-append, Option, Some, None, nat_eq, ◌&&◌, codes, bytes_eq}
use Rattle.std.specs.List.{list_all}
use Rattle.std.specs.Str.Lines.{strip_carriage_return}
use Rattle.std.proofs.lemmas.Bool.Decides.{nat_tests}
use Rattle.hex.specs.Hex.{is_hex_digit}
use Rattle.wb_names.specs.Values.{DrawopValue}
use Rattle.wb_lines.specs.Words.{words, words_after, is_hex, unhex}
use Rattle.wb_lines.proofs.HexWords.{unhex-not_hex}
use Rattle.wb_lines.proofs.StandingLines.{stripped}
use Rattle.wb_codec.specs.declared.datagram.Datagram.{Datagram}
use Rattle.wb_codec.specs.declared.datagram.Datagram.TheVariants as datagrams
use Rattle.wb_codec.specs.Reading.{reading}
use Rattle.wb_words.specs.Reading.{is_kind, begins_datagram, reading as reading_words}
use Rattle.wb_words.specs.declared.fault.WrongWord.{WrongWord}
use Rattle.wb_words.proofs.Visible.{read_visible, no_return_ends}
use Rattle.wb_words.specs.declared.digits_fault.DigitsFault.TheVariants as digit_faults
use Rattle.wb_commands.specs.declared.fault.LineFault.{LineFault}
use Rattle.wb_commands.specs.declared.fault.LineFault.TheVariants as faults
use Rattle.wb_commands.specs.declared.command.Command.{Command}
use Rattle.wb_commands.specs.declared.command.Command.TheVariants.{Arrive, Skip, Board, Call, Question}
use Rattle.wb_commands.specs.Parsing.{◌>>=◌, or_fault, number, one_of, two_of, four_of, page, read_or_fault, datagram, board, arrived_line, heard_line, arrive, hear, handed_in, bytes_line, distance_set, tuning, tick, script_question, line_of_page, script_command, begins_comment, script_line_of_words, script_in_words, script_line_of}
use Rattle.wb_member.specs.declared.calls.Call.TheVariants.{SetDelay, Tune, Tick, Look, Session}
use Rattle.wb_script.specs.Script.{Arrival, part_of}
use Rattle.wb_board.specs.Counts.{MAX_CELLS}

-- ---- the words of a line that ends so

abbrev EndsSo : List (List ℕ) → Type 0
EndsSo ws = (front : List (List ℕ)) × (w : List ℕ) × (ws ≡ front ++ (w ++ 13 ∷ []) ∷ [])

ends_so : (begun xs : List ℕ) → EndsSo (words_after begun (xs ++ 13 ∷ []))
ends_so begun [] = let long : nat_eq (length (begun ++ 13 ∷ [])) 0 ≡ false = grind (arith, nat_tests, length-append begun (13 ∷ [])) in ([], begun, rw long refl)
ends_so begun (b ∷ xs) = at (nat_eq b 32) (nat_eq (length begun) 0) (ends_so [] xs) (ends_so (begun ++ b ∷ []) xs) where
  at : (space none : Bool) → EndsSo (words_after [] (xs ++ 13 ∷ [])) → EndsSo (words_after (begun ++ b ∷ []) (xs ++ 13 ∷ []))
      → EndsSo (cond space (cond none (words_after [] (xs ++ 13 ∷ [])) (begun ∷ words_after [] (xs ++ 13 ∷ []))) (words_after (begun ++ b ∷ []) (xs ++ 13 ∷ [])))
  at true true p q = p
  at true false p q = (begun ∷ p.0, p.1, ap (λ (l : List (List ℕ)). begun ∷ l) p.2)
  at false none p q = q

-- a carriage return is no digit
not_all : (w : List ℕ) → list_all is_hex_digit (w ++ 13 ∷ []) ≡ false
not_all [] = refl
not_all (b ∷ w) = at (is_hex_digit b) (not_all w) where
  at : (digit : Bool) → list_all is_hex_digit (w ++ 13 ∷ []) ≡ false → (digit && list_all is_hex_digit (w ++ 13 ∷ [])) ≡ false
  at true e = e
  at false e = refl

no_digits : (w bytes : List ℕ) → unhex (w ++ 13 ∷ []) ≡ Some bytes → ⊥
no_digits w bytes e =
    let hex : is_hex (w ++ 13 ∷ []) ≡ false = at (nat_eq (length (w ++ 13 ∷ []) % 2) 0) in
    absurd (different bytes (sym (unhex-not_hex (w ++ 13 ∷ []) hex) ∙ e)) where
      at : (even : Bool) → (even && list_all is_hex_digit (w ++ 13 ∷ [])) ≡ false
      at true = not_all w
      at false = refl

      different : (bytes : List ℕ) → None ≡ Some bytes → ⊥
      different bytes e = cc

-- ---- the words of a line that hands in an arrival

-- it hands in none
abbrev HandsInNone : Result Command LineFault → Type 0
HandsInNone (Ok (Arrive d)) = ⊥
HandsInNone said = Unit {0}

none_then : {A : Type 0} → (r : Result A LineFault) (f : A → Result Command LineFault) → ((x : A) → HandsInNone (f x)) → HandsInNone (r >>= f)
none_then (Ok x) f none = none x
none_then (Err e) f none = tt

no_board : (ws : List (List ℕ)) → HandsInNone (board ws)
unfolding board
no_board ws =
    none_then (or_fault faults.Words (four_of ws)) _ (λ w.
    none_then (number 0 (2 ^ 32 - 1) w.0) _ (λ member.
    none_then (number 1 MAX_CELLS w.1) _ (λ cells.
    none_then (number 1 8 w.2) _ (λ workers.
    none_then (number 0 (2 ^ 64 - 1) w.3) (λ seed. Ok (Board member cells workers seed)) (λ seed. tt)))))

no_distance : (ws : List (List ℕ)) → HandsInNone (distance_set ws)
unfolding distance_set
no_distance ws =
    none_then (or_fault faults.Words (two_of ws)) _ (λ w.
    none_then (number 0 (2 ^ 32 - 1) w.0) _ (λ source.
    none_then (number 0 (2 ^ 24 - 1) w.1) (λ micros. Ok (Call (SetDelay source micros))) (λ micros. tt)))

no_tuning : (ws : List (List ℕ)) → HandsInNone (tuning ws)
unfolding tuning
no_tuning ws =
    none_then (or_fault faults.Words (four_of ws)) _ (λ w.
    none_then (number 1 16 w.0) _ (λ c1.
    none_then (number 1 16 w.1) _ (λ c2.
    none_then (number 1 16 w.2) _ (λ d1.
    none_then (number 1 16 w.3) (λ d2. Ok (Call (Tune (record { c1 = c1; c2 = c2; d1 = d1; d2 = d2 })))) (λ d2. tt)))))

no_tick : (ws : List (List ℕ)) → HandsInNone (tick ws)
unfolding tick
no_tick ws =
    none_then (or_fault faults.Words (one_of ws)) _ (λ w.
    none_then (number 0 (2 ^ 48 - 1) w) (λ moment. Ok (Call (Tick moment))) (λ moment. tt))

none_heard : (v : Datagram) → HandsInNone (heard_line v)
none_heard (datagrams.Draw e) = tt
none_heard v = tt

no_page : (word : List ℕ) (ws : List (List ℕ)) → HandsInNone (line_of_page word ws)
unfolding line_of_page
no_page word ws = at (bytes_eq word (codes "look")) (bytes_eq word (codes "session")) where
  at : (a b : Bool) → HandsInNone (cond a (page ws >>= (λ p. Ok (Call (Look p)))) (cond b (page ws >>= (λ p. Ok (Call (Session p)))) (script_question word ws >>= (λ query. Ok (Question query)))))
  at true b = none_then (page ws) (λ p. Ok (Call (Look p))) (λ p. tt)
  at false true = none_then (page ws) (λ p. Ok (Call (Session p))) (λ p. tt)
  at false false = none_then (script_question word ws) (λ query. Ok (Question query)) (λ query. tt)

-- a datagram is one word of digits
abbrev HasDigits : List (List ℕ) → Type 0
HasDigits ws = (digits : List ℕ) × (bytes : List ℕ) × (ws ≡ digits ∷ []) × (unhex digits ≡ Some bytes)

digits_of : (ws : List (List ℕ)) (v : Datagram) → datagram ws ≡ Ok v → HasDigits ws
unfolding datagram
digits_of (a ∷ []) v e = at (unhex a) refl e where
  at : (r : Option (List ℕ)) → unhex a ≡ r → (or_fault (faults.Digits digit_faults.Hex) r >>= (λ bytes. read_or_fault (reading bytes))) ≡ Ok v → HasDigits (a ∷ [])
  at None is f = absurd cc
  at (Some bytes) is f = (a, bytes, refl, is)
digits_of ws v e = absurd cc

arrives_with : (ws : List (List ℕ)) (then : Datagram → Result Command LineFault) (d : DrawopValue) → (datagram ws >>= then) ≡ Ok (Arrive d) → HasDigits ws
arrives_with ws then d e = at (datagram ws) refl e where
  at : (r : Result Datagram LineFault) → datagram ws ≡ r → (r >>= then) ≡ Ok (Arrive d) → HasDigits ws
  at (Ok v) is f = digits_of ws v is
  at (Err fault) is f = absurd cc

has_digits : (word : List ℕ) (ws : List (List ℕ)) (d : DrawopValue) → script_command word ws ≡ Ok (Arrive d) → HasDigits ws
unfolding script_command
has_digits word ws d e =
    at (bytes_eq word (codes "board")) (bytes_eq word (codes "arrive")) (bytes_eq word (codes "hear")) (bytes_eq word (codes "datagram")) (bytes_eq word (codes "distance")) (bytes_eq word (codes "tuning")) (bytes_eq word (codes "tick")) e where
      none : (said : Result Command LineFault) → HandsInNone said → said ≡ Ok (Arrive d) → HasDigits ws
      none said is e = absurd (subst HandsInNone e is)

      at : (a b c h g t i : Bool) → cond a (board ws) (cond b (arrive ws) (cond c (hear ws) (cond h (bytes_line ws) (cond g (distance_set ws) (cond t (tuning ws) (cond i (tick ws) (line_of_page word ws))))))) ≡ Ok (Arrive d) → HasDigits ws
      at true b c h g t i e = none (board ws) (no_board ws) e
      at false true c h g t i e = arrives_with ws arrived_line d e
      at false false true h g t i e = none (hear ws) (none_then (datagram ws) heard_line none_heard) e
      at false false false true g t i e = arrives_with ws (λ v. Ok (handed_in v)) d e
      at false false false false true t i e = none (distance_set ws) (no_distance ws) e
      at false false false false false true i e = none (tuning ws) (no_tuning ws) e
      at false false false false false false true e = none (tick ws) (no_tick ws) e
      at false false false false false false false e = none (line_of_page word ws) (no_page word ws) e

words_arrive : (word : List ℕ) (ws : List (List ℕ)) (d : DrawopValue) → script_line_of_words (word ∷ ws) ≡ Ok (Arrive d) → HasDigits ws
words_arrive word ws d e = at (begins_comment word) e where
  at : (comment : Bool) → cond comment (Ok Skip) (script_command word ws) ≡ Ok (Arrive d) → HasDigits ws
  at true f = absurd cc
  at false f = has_digits word ws d f

-- ---- no arrival ends so

more_words : (front : List (List ℕ)) (x : List ℕ) → front ++ x ∷ [] ≡ [] → ⊥
more_words [] x e = cc
more_words (a ∷ front) x e = cc

no_arrival : (front : List (List ℕ)) (w : List ℕ) (d : DrawopValue) → script_line_of_words (front ++ (w ++ 13 ∷ []) ∷ []) ≡ Ok (Arrive d) → ⊥
no_arrival [] w d e = let p = words_arrive (w ++ 13 ∷ []) [] d e in let none = p.2 in absurd cc
no_arrival (word ∷ []) w d e =
    let p = words_arrive word ((w ++ 13 ∷ []) ∷ []) d e in
    let same : w ++ 13 ∷ [] ≡ p.0 = head_is (w ++ 13 ∷ []) p.0 p.2 in
    no_digits w p.1 (ap unhex same ∙ p.3) where
      head_is : (x y : List ℕ) → x ∷ [] ≡ y ∷ [] → x ≡ y
      head_is x y e = cc
no_arrival (word ∷ a ∷ front) w d e =
    let p = words_arrive word (a ∷ (front ++ (w ++ 13 ∷ []) ∷ [])) d e in
    more_words front (w ++ 13 ∷ []) (rest_is a p.0 (front ++ (w ++ 13 ∷ []) ∷ []) p.2) where
      rest_is : (x y : List ℕ) (xs : List (List ℕ)) → x ∷ xs ≡ y ∷ [] → xs ≡ []
      rest_is x y xs e = cc

said_arrival : (said : Result Command LineFault) (d : DrawopValue) → part_of said ≡ Arrival d → said ≡ Ok (Arrive d)
said_arrival (Ok (Arrive e)) d p = let same : e ≡ d = cc in ap (λ (x : DrawopValue). Ok (Arrive x)) same
said_arrival said d p = absurd cc

no_return : (xs : List ℕ) (d : DrawopValue) → part_of (script_line_of (xs ++ 13 ∷ [])) ≡ Arrival d → ⊥
no_return xs d p = at (begins_datagram (xs ++ 13 ∷ [])) (said_arrival (script_line_of (xs ++ 13 ∷ [])) d p) where
  worded : (r : Result Datagram WrongWord) → reading_words (xs ++ 13 ∷ []) ≡ r → script_in_words r ≡ Ok (Arrive d) → ⊥
  worded (Ok v) is f = no_return_ends xs (read_visible (xs ++ 13 ∷ []) v is)
  worded (Err wrong) is f = absurd cc

  at : (begins : Bool) → cond begins (script_in_words (reading_words (xs ++ 13 ∷ []))) (script_line_of_words (words (xs ++ 13 ∷ []))) ≡ Ok (Arrive d) → ⊥
  at true f = worded (reading_words (xs ++ 13 ∷ [])) refl f
  at false f = let e = ends_so [] xs in no_arrival e.0 e.1 d (ap script_line_of_words (sym e.2) ∙ f)

-- So it is its content.
pub unreturned : (bytes : List ℕ) (d : DrawopValue) → part_of (script_line_of bytes) ≡ Arrival d → strip_carriage_return bytes ≡ bytes
unreturned bytes d p = at (stripped bytes) where
  at : (strip_carriage_return bytes ≡ bytes) ⊎ (bytes ≡ strip_carriage_return bytes ++ 13 ∷ []) → strip_carriage_return bytes ≡ bytes
  at (inl e) = e
  at (inr e) = absurd (no_return (strip_carriage_return bytes) d (ap (λ (b : List ℕ). part_of (script_line_of b)) (sym e) ∙ p))

-- It has some bytes.
pub some_bytes : (bytes : List ℕ) (d : DrawopValue) → part_of (script_line_of bytes) ≡ Arrival d → bytes ≡ [] → ⊥
unfolding is_kind
some_bytes bytes d p none = let said = ap (λ (b : List ℕ). part_of (script_line_of b)) (sym none) ∙ p in absurd cc
