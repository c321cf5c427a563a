-- Bytes that were pulled, one after the other.
use Rattle.std.proofs.Common.{◌≡◌, ◌≢◌, ◌≤◌, ◌<◌, ◌+◌, ◌-◌, min, subst, Bool, true, ℕ, suc, zero, List, [], ◌∷◌, ◌++◌, length, get_or, take, drop, refl, sym, ap, ◌∙◌, append_assoc, arith, Option, Some, None, ◌==◌, unwrap_or}
use Rattle.std.proofs.lemmas.List.{take-append-drop, take-take, drop-drop, drop-take, length-take, length-append}
use Rattle.memchr.specs.Find.{IsFirstByte, is_byte}
use Rattle.std.proofs.lemmas.Bool.Decides.{nat_tests}
use Rattle.wb_lines.specs.Ahead.{Ahead, ReadsAhead, NoLineFeed, TakesRun, PassesRun}
use Rattle.wb_lines.proofs.KnownBytes.{Consumes-none, Consumes-then}

pub ReadsAhead-then : (a b c : Ahead) (l0 l1 l2 : Option (List ℕ)) (f0 f1 f2 : Bool) (x y : List ℕ) → ReadsAhead a b l0 l1 f0 f1 x → ReadsAhead b c l1 l2 f1 f2 y → ReadsAhead a c l0 l2 f0 f2 (x ++ y)
ReadsAhead-then a b c l0 l1 l2 f0 f1 f2 x y p q = record {
  consumes = Consumes-then l0 l1 l2 x y p.consumes q.consumes;
  none_after_end = λ e. ap (λ (t : List ℕ). t ++ y) (p.none_after_end e) ∙ q.none_after_end (p.end_stays e);
  end_stays = λ e. q.end_stays (p.end_stays e);
  at_end = λ start e. q.at_end (p.at_end start) e;
  working_at_end = λ start e. q.working_at_end (p.working_at_end start) e;
}

pub pulled-then : (a line b x y c : List ℕ) → a ++ x ≡ line ++ b → b ++ y ≡ c → a ++ (x ++ y) ≡ line ++ c
pulled-then a line b x y c p q = sym (append_assoc a x y) ∙ ap (λ (t : List ℕ). t ++ y) p ∙ append_assoc line b y ∙ ap (λ (t : List ℕ). line ++ t) q

pub NoLineFeed-push : (line : List ℕ) (b : ℕ) → NoLineFeed line → b ≢ 10 → NoLineFeed (line ++ b ∷ [])
NoLineFeed-push [] b h ne = (ne, tt)
NoLineFeed-push (a ∷ line) b h ne = (h.0, NoLineFeed-push line b h.1 ne)

pub ReadsAhead-none : (a : Ahead) (l : Option (List ℕ)) (f : Bool) → ReadsAhead a a l l f f []
ReadsAhead-none a l f = record {
  consumes = Consumes-none l;
  none_after_end = λ e. refl;
  end_stays = λ e. e;
  at_end = λ start. start;
  working_at_end = λ start. start;
}

-- what was pulled stays so while bytes are only moved
pub ReadsAhead-on : (a b c : Ahead) (l l' : Option (List ℕ)) (f f' : Bool) (x : List ℕ) → c.ended ≡ b.ended → ReadsAhead a b l l' f f' x → ReadsAhead a c l l' f f' x
ReadsAhead-on a b c l l' f f' x e p = record {
  consumes = p.consumes;
  none_after_end = p.none_after_end;
  end_stays = λ is. e ∙ p.end_stays is;
  at_end = λ start is. p.at_end start (sym e ∙ is);
  working_at_end = λ start is. p.working_at_end start (sym e ∙ is);
}

pub NoLineFeed-append : (xs ys : List ℕ) → NoLineFeed xs → NoLineFeed ys → NoLineFeed (xs ++ ys)
NoLineFeed-append [] ys h k = k
NoLineFeed-append (x ∷ xs) ys h k = (h.0, NoLineFeed-append xs ys h.1 k)

-- bytes none of which is a line feed
pub none_before : (xs : List ℕ) (n : ℕ) → ((k : ℕ) → k < n → get_or xs k 0 ≢ 10) → n ≤ length xs → NoLineFeed (take n xs)
none_before xs zero h le = tt
none_before [] (suc n) h le = tt
none_before (x ∷ xs) (suc n) h le = (h 0 (omega arith), none_before xs n (λ k lt. h (suc k) (omega arith)) (omega arith))

-- what is at hand, with c bytes of it moved away from its front
pub at_hand : (xs : List ℕ) (s e c : ℕ) → s + c ≤ e → take (e - s) (drop s xs) ≡ take c (take (e - s) (drop s xs)) ++ take (e - (s + c)) (drop (s + c) xs)
at_hand xs s e c le =
    let parts : e - s ≡ c + (e - (s + c)) = omega arith in
    let rest : drop c (take (e - s) (drop s xs)) ≡ take (e - (s + c)) (drop (s + c) xs) = ap (λ (n : ℕ). drop c (take n (drop s xs))) parts ∙ drop-take c (e - (s + c)) (drop s xs) ∙ ap (take (e - (s + c))) (drop-drop c s xs) in
    sym (take-append-drop c (take (e - s) (drop s xs))) ∙ ap (λ (t : List ℕ). take c (take (e - s) (drop s xs)) ++ t) rest

-- a line that goes on by a byte and by what follows it in the block
pub goes_on : (all line line' : List ℕ) (b : ℕ) (old new : Ahead) → all ≡ line ++ b ∷ old.bytes → TakesRun old new (line ++ b ∷ []) line' → all ≡ line' ++ new.bytes
goes_on all line line' b old new e t =
    e ∙ ap (λ (r : List ℕ). line ++ b ∷ r) t.from ∙ sym (append_assoc line (b ∷ []) (t.run ++ new.bytes)) ∙ sym (append_assoc (line ++ b ∷ []) t.run new.bytes) ∙ ap (λ (r : List ℕ). r ++ new.bytes) (sym t.onto)

is_ten : (b : ℕ) → b ≡ 10 → (b == 10) ≡ true
is_ten b e = grind (arith, nat_tests)

pub before_feed : (xs : List ℕ) (r : Option ℕ) → IsFirstByte (is_byte 10) xs r → NoLineFeed (take (unwrap_or r (length xs)) xs)
before_feed xs None h = none_before xs (length xs) (λ k lt e. h k (omega arith) lt (is_ten (get_or xs k 0) e)) (omega arith)
before_feed xs (Some n) h = none_before xs n (λ k lt e. h.0.before k (omega arith) lt (is_ten (get_or xs k 0) e)) (omega (arith, h.0.high))

-- the front of a block was moved to a line
pub run_taken : (old new : Ahead) (block line line' : List ℕ) (start end count room : ℕ) → old.bytes ≡ take (end - start) (drop start block) → new.bytes ≡ take (end - (start + count)) (drop (start + count) block) → start ≤ end
    → length line ≤ 65537 → room ≡ min (length (take (end - start) (drop start block))) (65537 - length line) → count ≤ length (take room (take (end - start) (drop start block))) → NoLineFeed (take count (take room (take (end - start) (drop start block))))
    → line' ≡ line ++ take count (take (end - start) (drop start block)) → TakesRun old new line line'
run_taken old new block line line' start end count room before after in_order fits room_is within none moved =
    let ahead = take (end - start) (drop start block) in
    let below : count ≤ room = omega (arith, length-take room ahead) in
    let inside : start + count ≤ end = omega (arith, length-take room ahead, length-take (end - start) (drop start block)) in
    record {
      run = take count ahead;
      from = before ∙ at_hand block start end count inside ∙ ap (λ (t : List ℕ). take count ahead ++ t) (sym after);
      onto = moved;
      no_line_feed = subst NoLineFeed (take-take count room ahead below) none;
      short = omega (arith, ap length moved, length-append line (take count ahead), length-take count ahead);
    }

-- the front of a block was passed over
pub run_passed : (old new : Ahead) (block : List ℕ) (start end count room most : ℕ) → old.bytes ≡ take (end - start) (drop start block) → new.bytes ≡ take (end - (start + count)) (drop (start + count) block) → start ≤ end
    → room ≡ min (length (take (end - start) (drop start block))) most → count ≤ length (take room (take (end - start) (drop start block))) → NoLineFeed (take count (take room (take (end - start) (drop start block)))) → PassesRun old new count
run_passed old new block start end count room most before after in_order room_is within none =
    let ahead = take (end - start) (drop start block) in
    let below : count ≤ room = omega (arith, length-take room ahead) in
    let inside : start + count ≤ end = omega (arith, length-take room ahead, length-take (end - start) (drop start block)) in
    record {
      run = take count ahead;
      from = before ∙ at_hand block start end count inside ∙ ap (λ (t : List ℕ). take count ahead ++ t) (sym after);
      no_line_feed = subst NoLineFeed (take-take count room ahead below) none;
      counted = omega (arith, length-take count ahead, length-take room ahead);
    }

-- what was passed over goes on by a byte and by what follows it in the block
pub passes_on : (all rest : List ℕ) (b count : ℕ) (old new : Ahead) (p : PassesRun old new count) → all ≡ rest ++ b ∷ old.bytes → all ≡ ((rest ++ b ∷ []) ++ p.run) ++ new.bytes
passes_on all rest b count old new p e =
    e ∙ ap (λ (r : List ℕ). rest ++ b ∷ r) p.from ∙ sym (append_assoc rest (b ∷ []) (p.run ++ new.bytes)) ∙ sym (append_assoc (rest ++ b ∷ []) p.run new.bytes)

-- the line goes on
pub stays_free : (line line' : List ℕ) (b : ℕ) (old new : Ahead) → NoLineFeed line → b ≢ 10 → TakesRun old new (line ++ b ∷ []) line' → NoLineFeed line'
stays_free line line' b old new none ne t = subst NoLineFeed (sym t.onto) (NoLineFeed-append (line ++ b ∷ []) t.run (NoLineFeed-push line b none ne) t.no_line_feed)

pub grows : (line line' : List ℕ) (b : ℕ) (old new : Ahead) → TakesRun old new (line ++ b ∷ []) line' → length line < length line'
grows line line' b old new t = omega (arith, ap length t.onto, length-append (line ++ b ∷ []) t.run, length-append line (b ∷ []))
