-- What a member does and then is, from what its keeper did.
use Rattle.std.proofs.Common.{◌≡◌, ℕ, Bool, true, false, not, ◌||◌, List, [], ◌∷◌, length, sym, refl, ap, subst, ◌∙◌}
use Rattle.wb_names.specs.Values.{NameValue, DrawopValue}
use Rattle.wb_names.specs.declared.name.PageId.{PageId}
use Rattle.wb_codec.specs.declared.datagram.Datagram.{Datagram}
use Rattle.wb_recovery.specs.Events.{actions_of, timers_of}
use Rattle.wb_recovery.specs.Timing.{is_standing}
use Rattle.wb_recovery.specs.Values.{timers_in}
use Rattle.wb_recovery.specs.Stopping.{receipts}
use Rattle.wb_random.specs.Words.{Lcg}
use Rattle.wb_keeper.specs.Hearing.{marks_heard}
use Rattle.wb_keeper.specs.GivingUp.{is_timed}
use Rattle.wb_keeper.specs.Keeper.{KeeperCall, Miss, GoOn, Report, received_of, delay_to, holds}
use Rattle.wb_keeper.specs.Keeping.{KeeperValue, StandsFor, Keeps}
use Rattle.wb_keeper.specs.Missing.{wanted_of as names_wanted}
use Rattle.wb_keeper.specs.Sessions.{message_of}
use Rattle.wb_keeper.specs.Ticks.{sends_for, stopped_in, stopped_after}
use Rattle.wb_member.specs.Board.{Held}
use Rattle.wb_member.specs.Holding.{IsOpenAt, MemberValue}
use Rattle.wb_member.specs.Members.{calling}
use Rattle.wb_member.specs.Opened.{Opened, present, events, due_count, sent_by, ticked, wanted_of, looked, may_ask, with_asked, message, reported}
use Rattle.wb_member.specs.Random.{word_of, words_of, after_word, after_words}

abbrev pub member : Held → KeeperValue → Lcg → MemberValue
member b k g = record { board = b; keeper = k; words = g }

-- the history that a board and a member hold
pub same_history : (b : Held) (k : KeeperValue) (g : Lcg) (host : Opened) → IsOpenAt (member b k g) host → b.drawops ≡ host.is.held
same_history b k g host at = ap (λ (h : Held). h.drawops) at.board

-- a call was accepted
pub called : (b : Held) (k k' : KeeperValue) (g g' : Lcg) (host : Opened) (call call' : KeeperCall) (count : ℕ) → IsOpenAt (member b k g) host → Keeps call k k' → call ≡ call' → g' ≡ after_words g count
    → IsOpenAt (member b k' g') (record { is = calling call' host.is; random = after_words host.random count })
called b k k' g g' host call call' count at keeps e words = record {
  board = at.board;
  keeper = subst (λ (c : KeeperCall). StandsFor host.is.number host.is.constants (c ∷ host.is.calls) k') e (keeps host.is.number host.is.constants host.is.calls at.keeper);
  words = words ∙ ap (λ (x : Lcg). after_words x count) at.words;
}

-- ---- time goes on

pub tick_done : (b : Held) (k k' : KeeperValue) (g g' : Lcg) (host : Opened) (now count : ℕ) (words : List ℕ) (sent : List Datagram) → IsOpenAt (member b k g) host
    → count ≡ due_count now host → stopped_in host.is.held k.recovery ≡ stopped_after host.is.number host.is.constants host.is.calls host.is.held → words ≡ words_of g count → g' ≡ after_words g count
    → sent ≡ sends_for host.is.number b.drawops (actions_of host.is.constants (receipts now (events host) (received_of (delay_to host.is.number host.is.calls) (stopped_in b.drawops k.recovery))) now) → Keeps (GoOn now words (stopped_in b.drawops k.recovery)) k k'
    → (sent ≡ sent_by now host) × IsOpenAt (member b k' g') (ticked now host)
tick_done b k k' g g' host now count words sent at due stop random left told keeps =
    let ds = same_history b k g host at in
    let stopped : List NameValue = stopped_after host.is.number host.is.constants host.is.calls host.is.held in
    let halted : stopped_in b.drawops k.recovery ≡ stopped = ap (λ (l : List DrawopValue). stopped_in l k.recovery) ds ∙ stop in
    let ws : words ≡ words_of host.random (due_count now host) = random ∙ ap (words_of g) due ∙ ap (λ (x : Lcg). words_of x (due_count now host)) at.words in
    let call : GoOn now words (stopped_in b.drawops k.recovery) ≡ GoOn now (words_of host.random (due_count now host)) stopped =
    ap (λ (w : List ℕ). GoOn now w (stopped_in b.drawops k.recovery)) ws ∙ ap (GoOn now (words_of host.random (due_count now host))) halted in
    let is : sent ≡ sent_by now host = told
    ∙ ap (λ (l : List DrawopValue). sends_for host.is.number l (actions_of host.is.constants (receipts now (events host) (received_of (delay_to host.is.number host.is.calls) (stopped_in b.drawops k.recovery))) now)) ds
    ∙ ap (λ (names : List NameValue). sends_for host.is.number host.is.held (actions_of host.is.constants (receipts now (events host) (received_of (delay_to host.is.number host.is.calls) names)) now)) halted in
    (is, called b k k' g g' host (GoOn now words (stopped_in b.drawops k.recovery)) (GoOn now (words_of host.random (due_count now host)) stopped) (due_count now host) at keeps call (left ∙ ap (after_words g) due))

-- ---- a look at a page

pub look_done : (b : Held) (k k' : KeeperValue) (g g' : Lcg) (host : Opened) (page : PageId) (names : List NameValue) (words : List ℕ) (now : ℕ) → IsOpenAt (member b k g) host
    → names ≡ names_wanted host.is.constants (events host) b.drawops page (marks_heard host.is.number host.is.calls page) → words ≡ words_of g (length names) → g' ≡ after_words g (length names) → now ≡ k.moment → Keeps (Miss now names words) k k'
    → (length names ≡ length (wanted_of page host)) × IsOpenAt (member b k' g') (looked page host)
look_done b k k' g g' host page names words now at told random left moment keeps =
    let ds = same_history b k g host at in
    let want : names ≡ wanted_of page host = told ∙ ap (λ (l : List DrawopValue). names_wanted host.is.constants (events host) l page (marks_heard host.is.number host.is.calls page)) ds in
    let count : length names ≡ length (wanted_of page host) = ap (λ (l : List NameValue). length l) want in
    let ws : words ≡ words_of host.random (length (wanted_of page host)) = random ∙ ap (words_of g) count ∙ ap (λ (x : Lcg). words_of x (length (wanted_of page host))) at.words in
    let call : Miss now names words ≡ Miss (present host) (wanted_of page host) (words_of host.random (length (wanted_of page host))) =
    ap (λ (m : ℕ). Miss m names words) (moment ∙ at.keeper.moment) ∙ ap (λ (l : List NameValue). Miss (present host) l words) want ∙ ap (Miss (present host) (wanted_of page host)) ws in
    (count, called b k k' g g' host (Miss now names words) (Miss (present host) (wanted_of page host) (words_of host.random (length (wanted_of page host)))) (length (wanted_of page host)) at keeps call (left ∙ ap (after_words g) count))

-- ---- a name that is asked for

pub ask_done : (b : Held) (k k' : KeeperValue) (g g' : Lcg) (host : Opened) (name : NameValue) (word now : ℕ) → IsOpenAt (member b k g) host → {held timed : Bool} → holds host.is.held name ≡ held → held ≡ false
    → is_timed (timers_in k.recovery) name ≡ timed → timed ≡ false → word ≡ word_of g → g' ≡ after_word g → now ≡ k.moment → Keeps (Miss now (name ∷ []) (word ∷ [])) k k'
    → (true ≡ may_ask name host) × IsOpenAt (member b k' g') (with_asked name host)
ask_done b k k' g g' host name word now at {held} {timed} known none standing still taken left moment keeps =
    let free : may_ask name host ≡ true =
    ap (λ (h : Bool). not (h || is_timed (timers_of host.is.constants (events host)) name)) (known ∙ none)
    ∙ ap not (sym (ap is_standing (at.keeper.recovery.timers name)) ∙ standing ∙ still) in
    let call : Miss now (name ∷ []) (word ∷ []) ≡ Miss (present host) (name ∷ []) (word_of host.random ∷ []) =
    ap (λ (m : ℕ). Miss m (name ∷ []) (word ∷ [])) (moment ∙ at.keeper.moment) ∙ ap (λ (w : ℕ). Miss (present host) (name ∷ []) (w ∷ [])) (taken ∙ ap word_of at.words) in
    rw free (refl, called b k k' g g' host (Miss now (name ∷ []) (word ∷ [])) (Miss (present host) (name ∷ []) (word_of host.random ∷ [])) 1 at keeps call left)

-- ---- a session message

pub session_done : (b : Held) (k k' : KeeperValue) (g : Lcg) (host : Opened) (page : PageId) (now : ℕ) (sent : Datagram) → IsOpenAt (member b k g) host → now ≡ k.moment
    → sent ≡ message_of host.is.number host.is.calls now b.drawops page → Keeps (Report now) k k' → (sent ≡ message page host) × IsOpenAt (member b k' g) (reported page host)
session_done b k k' g host page now sent at moment told keeps =
    let is : now ≡ present host = moment ∙ at.keeper.moment in (
      told ∙ ap (λ (m : ℕ). message_of host.is.number host.is.calls m b.drawops page) is ∙ ap (λ (l : List DrawopValue). message_of host.is.number host.is.calls (present host) l page) (same_history b k g host at),
      called b k k' g g host (Report now) (Report (present host)) 0 at keeps (ap Report is) refl,
    )
