-- The numbers that others reported, and what comes from oneself.
use Rattle.std.proofs.Common.{◌≡◌, ℕ, ◌<◌, ◌≤◌, Bool, true, false, cond, List, [], ◌∷◌, Option, None, refl, ap, ◌∙◌, sym, subst, arith, ◌⊎◌, inl, inr, ⊎_elim}
use Rattle.std.specs.Prelude.{max, Contains, nat_eq, unwrap_or}
use Rattle.std.specs.List.{list_any}
use Rattle.std.specs.Option.{option_or}
use Rattle.std.proofs.lemmas.Bool.{cases_lt}
use Rattle.wb_names.specs.declared.name.PageId.{PageId}
use Rattle.wb_names.proofs.Listings.{Contains-here, Contains-there, Contains-cases, Contains-none}
use Rattle.wb_codec.specs.declared.datagram.Datagram.{Datagram}
use Rattle.wb_codec.specs.declared.datagram.Datagram.TheVariants.{Draw, Session, Request, AskPages, PageState}
use Rattle.wb_recovery.specs.Events.{Event, Asked}
use Rattle.wb_keeper.specs.Keeper.{KeeperCall, SetDelay, SetConstants, Hear, Arrive, Miss, GoOn, Report, GiveUp, newest, moment_at, is_own, high_in, high_reported, high_heard, delay_in, delay_to, delay_given, session_in, session_heard, remember, senders_of, heard_by, asked_by, events_of}
use Rattle.wb_keeper.specs.KeeperLaws.{IsReported, MarksAreGreatest, OnlyMoves, OwnOnlyMoves, DrawopsOnlyMove}
use Rattle.wb_keeper.proofs.KeptCalls.{max_none}

module _ (me : ℕ) (page : PageId) (source : ℕ) where
  -- what one call tells
  told_here : (call : KeeperCall) (calls : List KeeperCall) → (high_reported me page source call ≡ 0) ⊎ IsReported me (call ∷ calls) page source (high_reported me page source call)
  told_here (SetDelay s micros) calls = inl refl
  told_here (SetConstants constants) calls = inl refl
  told_here (Arrive now held) calls = inl refl
  told_here (Miss now names words) calls = inl refl
  told_here (GoOn now words stopped) calls = inl refl
  told_here (Report now) calls = inl refl
  told_here (GiveUp now name asked) calls = inl refl
  told_here (Hear now datagram word held) calls = from (is_own me datagram) refl where
    from : (b : Bool) → is_own me datagram ≡ b → (cond b 0 (high_in page source datagram) ≡ 0) ⊎ IsReported me (Hear now datagram word held ∷ calls) page source (cond b 0 (high_in page source datagram))
    from true e = inl refl
    from false e = inr (now, word, datagram, held, Contains-here _ calls, e, refl)

  told_more : (call : KeeperCall) (calls : List KeeperCall) (high : ℕ) → IsReported me calls page source high → IsReported me (call ∷ calls) page source high
  told_more call calls high (now, word, datagram, held, c, e, is) = (now, word, datagram, held, Contains-there call _ calls c, e, is)

  told_most : (calls : List KeeperCall) (now word : ℕ) (datagram : Datagram) (held : Bool) → Contains calls (Hear now datagram word held) → is_own me datagram ≡ false → high_in page source datagram ≤ high_heard me calls page source
  told_most [] now word datagram held c e = absurd (Contains-none _ c)
  told_most (call ∷ calls) now word datagram held c e = ⊎_elim
      (λ (is : call ≡ Hear now datagram word held).
      let reported : high_reported me page source call ≡ high_in page source datagram = ap (high_reported me page source) is ∙ ap (λ (b : Bool). cond b 0 (high_in page source datagram)) e in
      omega arith)
      (λ (d : Contains calls (Hear now datagram word held)). let le = told_most calls now word datagram held d e in omega arith)
      (Contains-cases call _ calls c)

  max_either : (a b : ℕ) → (max a b ≡ a) ⊎ (max a b ≡ b)
  max_either a b = ⊎_elim (λ (lt : a < b). inr (omega arith)) (λ (le : b ≤ a). inl (omega arith)) (cases_lt a b)

  reported : (calls : List KeeperCall) → (high_heard me calls page source ≡ 0) ⊎ IsReported me calls page source (high_heard me calls page source)
  reported [] = inl refl
  reported (call ∷ calls) = ⊎_elim
      (λ (e : max (high_reported me page source call) (high_heard me calls page source) ≡ high_reported me page source call). ⊎_elim
      (λ (z : high_reported me page source call ≡ 0). inl (e ∙ z))
      (λ (t : IsReported me (call ∷ calls) page source (high_reported me page source call)). inr (subst (IsReported me (call ∷ calls) page source) (sym e) t))
      (told_here call calls))
      (λ (e : max (high_reported me page source call) (high_heard me calls page source) ≡ high_heard me calls page source). ⊎_elim
      (λ (z : high_heard me calls page source ≡ 0). inl (e ∙ z))
      (λ (t : IsReported me calls page source (high_heard me calls page source)). inr (subst (IsReported me (call ∷ calls) page source) (sym e) (told_more call calls _ t)))
      (reported calls))
      (max_either (high_reported me page source call) (high_heard me calls page source))

pub marks_are_greatest : MarksAreGreatest
marks_are_greatest me calls page source = record {
  reported = reported me page source calls;
  greatest = λ other h. subst (λ (n : ℕ). n ≤ high_heard me calls page source) h.6 (told_most me page source calls h.0 h.1 h.2 h.3 h.4 h.5);
}

-- ---- a call that tells this member nothing
module _ (me now : ℕ) (call : KeeperCall) (calls : List KeeperCall)
    (moment : moment_at (call ∷ calls) ≡ now)
    (marks : (page : PageId) (source : ℕ) → high_reported me page source call ≡ 0)
    (delays : (source : ℕ) → delay_given me source call ≡ None)
    (session : session_heard me call ≡ None)
    (events : events_of me (call ∷ calls) ≡ events_of me calls) where
  same_senders : senders_of me (call ∷ calls) ≡ senders_of me calls
  same_senders = ap (λ o. remember o (senders_of me calls)) session

  only_moves : OnlyMoves me now call calls
  only_moves = record {
    moment = moment;
    marks = λ page source. ap (λ (n : ℕ). max n (high_heard me calls page source)) (marks page source) ∙ max_none _;
    delays = λ source. ap (λ (o : Option ℕ). unwrap_or (option_or o (newest (delay_given me source) calls)) 100000) (delays source);
    senders = same_senders;
    heard = λ source. ap (λ (senders : List ℕ). cond (list_any (nat_eq source) senders) (option_or (heard_by source (session_heard me call)) (newest (λ c. heard_by source (session_heard me c)) calls)) None) same_senders
        ∙ ap (λ o. cond (list_any (nat_eq source) (senders_of me calls)) (option_or (heard_by source o) (newest (λ c. heard_by source (session_heard me c)) calls)) None) session;
    events = events;
  }

-- the timers hear no request of this member
own_asks : (me : ℕ) (delays : ℕ → ℕ) (now : ℕ) (datagram : Datagram) (word : ℕ) (held : Bool) (events : List Event) → is_own me datagram ≡ true → asked_by me delays now datagram word held events ≡ events
own_asks me delays now (Draw d) word held events e = refl
own_asks me delays now (Session sender sent page marks echoes) word held events e = refl
own_asks me delays now (AskPages asker) word held events e = refl
own_asks me delays now (PageState sender page marks) word held events e = refl
own_asks me delays now (Request asker name) word held events e = ap (λ (b : Bool). cond b events (Asked name held now (delays (cond held asker name.source)) word ∷ events)) e

pub own_only_moves : OwnOnlyMoves
own_only_moves me now datagram word held calls own = only_moves me now (Hear now datagram word held) calls refl
    (λ page source. ap (λ (b : Bool). cond b 0 (high_in page source datagram)) own)
    (λ source. ap (λ (b : Bool). cond b None (delay_in me now source datagram)) own)
    (ap (λ (b : Bool). cond b None (session_in now datagram)) own)
    (own_asks me (delay_to me calls) now datagram word held (events_of me calls) own)

pub drawops_only_move : DrawopsOnlyMove
drawops_only_move me now d word held calls = only_moves me now (Hear now (Draw d) word held) calls refl (λ page source. refl) (λ source. refl) refl refl
