-- What the two desks of a relay know.
use Rattle.std.proofs.Common.{◌≡◌, Result, Ok, Err, List, ◌++◌, ap, sym, subst, ◌∙◌, arith, inr}
use Rattle.std.specs.Prelude.{MatchResult}
use Rattle.std.proofs.lemmas.List.{append-nil}
use mathlib.Core.List.{IsPrefix}
use Rattle.wb_names.specs.Values.{DrawopValue}
use Rattle.wb_board.specs.Desks.{PassValue, longer, IsJoined}
use Rattle.wb_board.specs.Replies.{Accepted}
use Rattle.wb_board.specs.declared.reply.Reply.{Reply}
use Rattle.wb_board.specs.declared.reply.Reply.TheVariants.{New, Again, Clash}
use Rattle.wb_feed.specs.declared.relays.RelayFault.{RelayFault}
use Rattle.wb_feed.specs.declared.relays.RelayFault.TheVariants.{NoRow, Memory}
use Rattle.wb_feed.specs.Relays.{StandsAt, Relayed, NotRelayed, TellsOf, NotTold, Hears}
use Rattle.wb_feed.specs.Accepts.{Keeps}
use Rattle.wb_feed.proofs.Log.{keeps_is}
use Rattle.wb_feed.proofs.Prefixes.{prefix_get}

stands : (p q : PassValue) (d : DrawopValue) (r : Reply) → Accepted p d q r → StandsAt q.seen d r
stands p q d (New i) a = a.drawop
stands p q d (Again i) a = a.0
stands p q d (Clash i) a = a.0

stands_on : (g h : List DrawopValue) (d : DrawopValue) (r : Reply) → IsPrefix g h → StandsAt g d r → StandsAt h d r
stands_on g h d (New i) p s = prefix_get g h i d p s
stands_on g h d (Again i) p s = prefix_get g h i d p s
stands_on g h d (Clash i) p s = (s.0, prefix_get g h i s.0 p s.1, s.2, s.3)

pub relays : (p h q k m : PassValue) (d : DrawopValue) (r : Reply) → TellsOf p d q r m → IsJoined h m k → Relayed p h d q k r
relays p h q k m d r t j =
    let all : IsPrefix q.seen k.seen = subst (λ (l : List DrawopValue). IsPrefix l k.seen) t.seen j.second in
    let teller = stands p q d r t.accepted in
    record {
      accepted = t.accepted;
      heard = subst (λ (l : List DrawopValue). k.seen ≡ longer h.seen l) t.seen j.seen;
      all = all;
      teller = teller;
      hearer = stands_on q.seen k.seen d r all teller;
      rows = (j.mine ∙ (ap (λ l. h.mine ++ l) t.mine ∙ append-nil h.mine), omega (arith, j.free, t.free));
    }

-- both parts of a relay
pub relays_all : (p h q k : PassValue) (d : DrawopValue) (told : Result (Reply × PassValue) RelayFault) (result : Result Reply RelayFault) → MatchResult told (λ t. TellsOf p d q t.0 t.1) (NotTold p d q) → Hears told h k result
    → MatchResult result (Relayed p h d q k) (NotRelayed p h d q k)
relays_all p h q k d (Ok t) (Ok r) tells hears = relays p h q k t.1 d r (subst (λ (x : Reply). TellsOf p d q x t.1) hears.0 tells) hears.2
relays_all p h q k d (Ok t) (Err e) tells hears = subst (λ (x : RelayFault). NotRelayed p h d q k x) (sym hears.0) (inr (t.0, tells.accepted), hears.1)
relays_all p h q k d (Err f) (Ok r) tells hears = absurd hears
relays_all p h q k d (Err f) (Err e) tells hears = subst (λ (x : RelayFault). NotRelayed p h d q k x) hears.0 (refused p h q k d f tells hears.1) where
  refused : (p h q k : PassValue) (d : DrawopValue) (f : RelayFault) → NotTold p d q f → k ≡ h → NotRelayed p h d q k f
  refused p h q k d NoRow n e = (n, e)
  refused p h q k d Memory n e = (n, e)

pub hears_keeps : (h k : PassValue) (told : Result (Reply × PassValue) RelayFault) (result : Result Reply RelayFault) → Hears told h k result → Keeps h k
hears_keeps h k (Ok t) (Ok r) hears = record { same = hears.1; seen = hears.2.first }
hears_keeps h k (Ok t) (Err e) hears = keeps_is h k hears.1
hears_keeps h k (Err f) (Ok r) hears = absurd hears
hears_keeps h k (Err f) (Err e) hears = keeps_is h k hears.1
