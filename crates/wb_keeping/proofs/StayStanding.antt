-- A request timer that goes on standing.
use Rattle.std.proofs.Common.{◌≡◌, ℕ, Bool, true, false, cond, List, [], ◌∷◌, ◌∙◌, filter, subst, sym, true≢false}
use Rattle.std.specs.Prelude.{Contains, nat_eq}
use Rattle.std.proofs.lemmas.Bool.{false_from_ne_true}
use Rattle.wb_names.specs.Orders.{same_name}
use Rattle.wb_names.specs.Values.{DrawopValue, NameValue}
use Rattle.wb_names.proofs.Listings.{Contains-from_filter, Contains-here, Contains-there}
use Rattle.wb_names.proofs.Orders.{same_name-is}
use Rattle.wb_codec.specs.declared.datagram.Datagram.{Datagram}
use Rattle.wb_codec.specs.declared.datagram.Datagram.TheVariants.{Draw, Session, Request, AskPages, PageState}
use Rattle.wb_recovery.specs.Events.{Asked, Event, Got}
use Rattle.wb_recovery.specs.Laws.{arrives, notices, since}
use Rattle.wb_recovery.specs.Stopping.{receipts}
use Rattle.wb_keeper.specs.Keeper.{asked_by, delay_to, holds, received_of}
use Rattle.wb_keeper.specs.Ticks.{stopped_after}
use Rattle.wb_member.specs.Opened.{Opened, asks_for, events, present}
use Rattle.wb_member.specs.declared.calls.Call.TheVariants.{Tick}
use Rattle.wb_keeping.specs.Kept.{Arrives, Calls}
use Rattle.wb_keeping.specs.Performing.{after_line}
use Rattle.wb_keeping.proofs.StandingTimers.{IsMissed, missed_from, missed_to}

-- ---- as time goes on, and others come

-- what comes of others leaves a name missed
others_come : (n : NameValue) (now : ℕ) (delays : ℕ → ℕ) (names : List NameValue) (calls : List Event) → ((x : NameValue) → Contains names x → same_name x n ≡ false) → IsMissed n calls
    → IsMissed n (receipts now calls (received_of delays names))
others_come n now delays [] calls others missed = missed
others_come n now delays (x ∷ names) calls others missed =
    others_come n now delays names (Got x now (delays x.source) ∷ calls) (λ y c. others y (Contains-there x y names c))
    (subst (λ (b : Bool). cond b false (since (notices n) (arrives n) calls) ≡ true) (sym (others x (Contains-here x names))) missed)

-- a request timer for what is lacked stands after a tick
pub ticked_stands : (now : ℕ) (host : Opened) (n : NameValue) → holds host.is.held n ≡ false → asks_for n host ≡ true → asks_for n (after_line (Calls (Tick now)) host) ≡ true
ticked_stands now host n lacks stands =
    missed_to (after_line (Calls (Tick now)) host) n
    (others_come n now (delay_to host.is.number host.is.calls) (stopped_after host.is.number host.is.constants host.is.calls host.is.held) (events host)
    (λ x c. false_from_ne_true (same_name x n) (λ same.
    true≢false (sym (subst (λ (y : NameValue). holds host.is.held y ≡ true) (same_name-is x n same) (Contains-from_filter (holds host.is.held) _ x c).1) ∙ lacks)))
    (missed_from host n stands))

-- and one of another name after a drawop came
pub arrival_stands : (d : DrawopValue) (host : Opened) (n : NameValue) → holds (after_line (Arrives d) host).is.held n ≡ false → asks_for n host ≡ true → asks_for n (after_line (Arrives d) host) ≡ true
arrival_stands d host n lacks stands =
    let then = (after_line (Arrives d) host).is.held in
    missed_to (after_line (Arrives d) host) n
    (others_come n (present host) (delay_to host.is.number host.is.calls) (filter (holds then) (d.name ∷ [])) (events host)
    (λ x c. false_from_ne_true (same_name x n) (λ same.
    true≢false (sym (subst (λ (y : NameValue). holds then y ≡ true) (same_name-is x n same) (Contains-from_filter (holds then) (d.name ∷ []) x c).1) ∙ lacks)))
    (missed_from host n stands))

-- ---- as something is heard

pub still_missed : (n : NameValue) (me now : ℕ) (delays : ℕ → ℕ) (v : Datagram) (word : ℕ) (held : Bool) (calls : List Event) → IsMissed n calls → IsMissed n (asked_by me delays now v word held calls)
still_missed n me now delays (Request asker name) word held calls missed = by (nat_eq asker me) where
  by : (b : Bool) → IsMissed n (cond b calls (Asked name held now (delays (cond held asker name.source)) word ∷ calls))
  by true = missed
  by false = missed
still_missed n me now delays (Draw d) word held calls missed = missed
still_missed n me now delays (Session sender sent page marks echoes) word held calls missed = missed
still_missed n me now delays (AskPages asker) word held calls missed = missed
still_missed n me now delays (PageState sender page marks) word held calls missed = missed
