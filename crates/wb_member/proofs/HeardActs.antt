-- What a member sends at once for a datagram, and when it refuses one.
use Rattle.std.proofs.Common.{◌≡◌, ℕ, Bool, true, false, cond, List, Result, Ok, Err, IfOk, OnOk, refl, sym, ap, subst, ◌∙◌}
use Rattle.wb_names.specs.Faults.{fault_unless}
use Rattle.wb_names.specs.Values.{DrawopValue}
use Rattle.wb_codec.specs.declared.datagram.Datagram.{Datagram}
use Rattle.wb_random.specs.Words.{Lcg}
use Rattle.wb_keeper.specs.Hearing.{answers_to, asks_for_held}
use Rattle.wb_keeper.specs.Keeper.{Hear}
use Rattle.wb_keeper.specs.Keeping.{KeeperValue, Keeps}
use Rattle.wb_keeper.specs.KeepFaults.{IsKeptBy}
use Rattle.wb_keeper.specs.declared.keep_fault.KeepFault.{KeepFault}
use Rattle.wb_keeper.specs.declared.keep_fault.KeepFault.TheVariants.{TooMany}
use Rattle.wb_member.specs.Board.{Held}
use Rattle.wb_member.specs.Holding.{IsOpenAt}
use Rattle.wb_member.specs.Opened.{Opened, present, takes_word, words_for, word_at, has_room_for, heard, heard_fault, answered}
use Rattle.wb_member.specs.Random.{word_of, after_words}
use Rattle.wb_member.proofs.Acts.{member, same_history, called}

-- ---- room for marks

-- what was heard had room
pub had_room : {X : Type 0} (v : Datagram) (host : Opened) (r : Result X KeepFault) (x : X) → r ≡ Ok x → IsKeptBy (heard_fault v host) r → has_room_for v host ≡ true
had_room {X = X} v host r x is kept = by (has_room_for v host) (subst (IsKeptBy (heard_fault v host)) is kept) where
  by : (room : Bool) → IsKeptBy {X = X} (fault_unless room TooMany) (Ok x) → room ≡ true
  by true k = refl
  by false k = absurd cc

-- ---- what a member that heard a datagram does

pub hear_done : (b : Held) (k k' : KeeperValue) (g g' : Lcg) (host : Opened) (v : Datagram) (word : ℕ) (sent : List Datagram) → IsOpenAt (member b k g) host
    → word ≡ word_at v g → g' ≡ after_words g (words_for v) → sent ≡ answers_to k.me b.drawops v → Keeps (Hear k.moment v word (asks_for_held b.drawops v)) k k'
    → (sent ≡ answered v host) × IsOpenAt (member b k' g') (heard v host)
hear_done b k k' g g' host v word sent at words left told keeps =
    let ds = same_history b k g host at in
    let is : sent ≡ answered v host =
    told ∙ ap (λ (me : ℕ). answers_to me b.drawops v) at.keeper.me_is ∙ ap (λ (l : List DrawopValue). answers_to host.is.number l v) ds in
    let call : Hear k.moment v word (asks_for_held b.drawops v) ≡ Hear (present host) v (word_at v host.random) (asks_for_held host.is.held v) =
    ap (λ (m : ℕ). Hear m v word (asks_for_held b.drawops v)) at.keeper.moment
    ∙ ap (λ (n : ℕ). Hear (present host) v n (asks_for_held b.drawops v)) (words ∙ ap (word_at v) at.words)
    ∙ ap (λ (l : List DrawopValue). Hear (present host) v (word_at v host.random) (asks_for_held l v)) ds in
    (is, called b k k' g g' host (Hear k.moment v word (asks_for_held b.drawops v)) (Hear (present host) v (word_at v host.random) (asks_for_held host.is.held v)) (words_for v) at keeps call left)

-- by whatever came of the call, where the datagram takes no word
pub heard_all : {X : Type 0} (r : Result X KeepFault) (items : X → List Datagram) (b b' : Held) (k k' : KeeperValue) (g : Lcg) (v : Datagram) → takes_word v ≡ false → b' ≡ b → IfOk r (λ x. items x ≡ answers_to k.me b.drawops v)
    → OnOk r (Keeps (Hear k.moment v 0 (asks_for_held b.drawops v)) k k') → IfOk r (λ x. (host : Opened) → IsOpenAt (member b k g) host → (items x ≡ answered v host) × IsOpenAt (member b' k' g) (heard v host))
heard_all (Ok x) items b b' k k' g v plain same told keeps = λ host at.
    let done = hear_done b k k' g g host v 0 (items x) at (sym (ap (λ (t : Bool). cond t (word_of g) 0) plain)) (sym (ap (λ (t : Bool). after_words g (cond t 1 0)) plain)) told keeps in
    (done.0, subst (λ (h : Held). IsOpenAt (member h k' g) (heard v host)) (sym same) done.1)
heard_all (Err e) items b b' k k' g v plain same told keeps = tt
