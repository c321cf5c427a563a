-- No batch of a session counts a clash.
use Rattle.std.proofs.Common.{◌≡◌, ℕ, Bool, true, false, cond, List, [], ◌∷◌, ◌++◌, Option, Some, None, Result, Ok, refl, sym, ap, ◌∙◌, subst, arith, get_or, map, ⊎_elim, ◌⊎◌}
use Rattle.std.specs.Prelude.{Contains, codes, decimal, ◌||◌}
use Rattle.wb_names.specs.Arrivals.{Outcome}
use Rattle.wb_names.specs.Arrivals as became
use Rattle.wb_names.specs.Values.{DrawopValue}
use Rattle.wb_names.proofs.Listings.{Contains-here, Contains-there}
use Rattle.wb_codec.specs.declared.datagram.Datagram.TheVariants as datagrams
use Rattle.wb_recovery.specs.declared.tuning.Tuning.{Tuning}
use Rattle.wb_lines.specs.Taking.{met}
use Rattle.wb_words.specs.declared.adding.Adding.{Adding}
use Rattle.wb_member.specs.Lines.{Line, Arrives, Says, Calls}
use Rattle.wb_member.specs.Opened.{Opened, becomes}
use Rattle.wb_member.specs.declared.calls.Call.TheVariants.{Tick}
use Rattle.wb_keeping.specs.Kept.{Doing, adds, and_then, came, drawing, drew, ends_full, learned, performs, takes, timed}
use Rattle.wb_keeping.specs.Performing.{Keeping, sees, view_of}
use Rattle.wb_keeping.specs.Views.{View, holds, is_asked, is_full}
use Rattle.wb_commands.specs.Parsing.{handed_in}
use Rattle.wb_commands.specs.declared.command.Command.TheVariants as lines
use Rattle.wb_dialog.specs.declared.fault.Refusal.{Refusal}
use Rattle.wb_dialog.specs.declared.line.DriverLine.{DriverLine}
use Rattle.wb_dialog.specs.declared.line.DriverLine.TheVariants.{Script, Say, Came, Add}
use Rattle.wb_dialog.specs.Dialog.{batch_of, says_line}
use Rattle.wb_dialog.specs.Hosting.{Host, Driven, Kept, Reply, prints, denies, reply, unsent_text}
use Rattle.wb_laws_sessions.specs.Drawn.{AreHonest}
use Rattle.wb_laws_sessions.specs.Sessions.{Step, host_at, steps_then}
use Rattle.wb_laws_sessions.specs.Members.{Deed, Does}
use Rattle.wb_laws_machines.specs.Honest.{AreApart}
use Rattle.wb_laws_sessions.proofs.Several.{arrival_never_clashes, drawing_never_clashes}
use Rattle.wb_laws_hosts.specs.Laws.{BatchesCountNoClash, HandsIn}
use Rattle.wb_laws_hosts.specs.Telling.{told_by, told_of, told_said}
use Rattle.wb_laws_hosts.specs.Texts.{TextEvent, IsMemberAt, deeds_by, deeds_doing, deeds_of_line, deeds_of_event, deeds_said, hosting_at, steps_of_texts}
use Rattle.wb_laws_hosts.proofs.ReportTexts.{digit_0, digit_1, differ}
use Rattle.wb_laws_hosts.proofs.TextSessions.{texts_are_sessions}

-- ---- texts

-- two texts with one byte at a place
byte_of : (k : ℕ) (a b : List ℕ) → a ≡ b → get_or a k 0 ≡ get_or b k 0
byte_of k a b e = ap (λ (t : List ℕ). get_or t k 0) e

-- a batch of these four numbers
abbrev line_of : List ℕ → List ℕ → List ℕ → List ℕ → List ℕ
line_of a b c d = codes "batch " ++ (a ++ (codes " " ++ (b ++ (codes " " ++ (c ++ (codes " " ++ (d ++ codes "\n")))))))

new_text : (place : ℕ) → batch_of (became.New place) ≡ line_of (49 ∷ []) (48 ∷ []) (48 ∷ []) (48 ∷ [])
new_text place = ap (λ (x : List ℕ). line_of x (decimal 0) (decimal 0) (decimal 0)) digit_1 ∙ ap (λ (z : List ℕ). line_of (49 ∷ []) z z z) digit_0

again_text : (place : ℕ) → batch_of (became.Again place) ≡ line_of (48 ∷ []) (49 ∷ []) (48 ∷ []) (48 ∷ [])
again_text place = ap (λ (x : List ℕ). line_of (decimal 0) x (decimal 0) (decimal 0)) digit_1 ∙ ap (λ (z : List ℕ). line_of z (49 ∷ []) z z) digit_0

clash_text : (place : ℕ) → batch_of (became.Clash place) ≡ line_of (48 ∷ []) (48 ∷ []) (49 ∷ []) (48 ∷ [])
clash_text place = ap (λ (x : List ℕ). line_of (decimal 0) (decimal 0) x (decimal 0)) digit_1 ∙ ap (λ (z : List ℕ). line_of z z (49 ∷ []) z) digit_0

left_text : batch_of became.Left ≡ line_of (48 ∷ []) (48 ∷ []) (48 ∷ []) (49 ∷ [])
left_text = ap (λ (x : List ℕ). line_of (decimal 0) (decimal 0) (decimal 0) x) digit_1 ∙ ap (λ (z : List ℕ). line_of z z z (49 ∷ [])) digit_0

no_text : (k : ℕ) → [] ≡ batch_of (became.Clash k) → ⊥
no_text k e = differ 0 98 (omega arith) (byte_of 0 [] (batch_of (became.Clash k)) e)

abbrev IsClash : Outcome → Type 0
IsClash a = (place : ℕ) × (a ≡ became.Clash place)

only_clash : (k : ℕ) (a : Outcome) → batch_of a ≡ batch_of (became.Clash k) → IsClash a
only_clash k (became.New place) e = absurd (differ 48 49 (omega arith) (sym (byte_of 6 _ _ (sym (new_text place) ∙ e ∙ clash_text k))))
only_clash k (became.Again place) e = absurd (differ 48 49 (omega arith) (sym (byte_of 8 _ _ (sym (again_text place) ∙ e ∙ clash_text k))))
only_clash k (became.Clash place) e = (place, refl)
only_clash k became.Left e = absurd (differ 48 49 (omega arith) (byte_of 10 _ _ (sym left_text ∙ e ∙ clash_text k)))

only_clash_unsent : (k : ℕ) (a : Outcome) → unsent_text a ≡ batch_of (became.Clash k) → IsClash a
only_clash_unsent k (became.New place) e = absurd (no_text k e)
only_clash_unsent k (became.Again place) e = absurd (no_text k e)
only_clash_unsent k (became.Clash place) e = (place, refl)
only_clash_unsent k became.Left e = only_clash k became.Left e

-- ---- the deed that brings the drawop

begins : (line : Line) (b : Bool) (x y : Doing) (xs ys : List Line) → x.lines ≡ line ∷ xs → y.lines ≡ line ∷ ys → (rest : List Line) × ((cond b x y).lines ≡ line ∷ rest)
begins line true x y xs ys e f = (xs, e)
begins line false x y xs ys e f = (ys, f)

first_in : (line : Line) (some more : List Line) → (rest : List Line) × (some ≡ line ∷ rest) → Contains (map Does (some ++ more)) (Does line)
first_in line some more (rest, e) = subst (λ (l : List Line). Contains (map Does (l ++ more)) (Does line)) (sym e) (Contains-here (Does line) (map Does (rest ++ more)))

takes_begins : (d : DrawopValue) (see : List Line → View) → (k : Keeping) → (rest : List Line) × ((takes d see k.policy).lines ≡ Arrives d ∷ rest)
takes_begins d see k =
    let v = see [] in
    let learns = learned d.name (is_asked v d.name) in
    begins (Arrives d) (holds v d.name || is_full v) (performs (Arrives d) see k.policy) (and_then (performs (Arrives d)) learns see k.policy) [] _ refl refl

came_arrives : (now : ℕ) (d : DrawopValue) (k : Keeping) → Contains (deeds_doing (came now (datagrams.Draw d)) k) (Does (Arrives d))
came_arrives now d k =
    let see : List Line → View = λ (performed : List Line). sees k.host (Calls (Tick now) ∷ performed) in
    Contains-there (Does (Calls (Tick now))) (Does (Arrives d)) _ (first_in (Arrives d) (takes d see k.policy).lines _ (takes_begins d see k))

adds_says : (a : Adding) (k : Keeping) → let d = drawing (view_of k.host) a.page a.time a.op in Contains (deeds_doing (adds a.moment a.page a.time a.op) k) (Does (Says (datagrams.Draw d)))
adds_says a k =
    let d : DrawopValue = drawing (view_of k.host) a.page a.time a.op in
    let says : Line = Says (datagrams.Draw d) in
    let see : List Line → View = λ (performed : List Line). sees k.host (Calls (Tick a.moment) ∷ (says ∷ performed)) in
    let ticked : View = sees k.host (Calls (Tick a.moment) ∷ []) in
    let more : List Line = (and_then ends_full timed see (drew d ticked k.policy)).lines in
    Contains-there (Does (Calls (Tick a.moment))) (Does says) (map Does (says ∷ more)) (Contains-here (Does says) (map Does more))

-- ---- no clash

module _ (numbers : ℕ → ℕ) (place : ℕ) (older : List Step) (apart : AreApart numbers) (tuning : Tuning) (k : ℕ) where
  abbrev there : Opened
  there = host_at numbers older place

  abbrev Honest : List Deed → Type 0
  Honest deeds = AreHonest numbers (steps_then 0 place deeds older)

  none_arrives : (d : DrawopValue) (deeds : List Deed) (host : Opened) → host ≡ there → Honest deeds → Contains deeds (Does (Arrives d)) → IsClash (becomes d host) → ⊥
  none_arrives d deeds host is honest c clash = arrival_never_clashes numbers 0 place deeds older apart honest d clash.0 c (ap (becomes d) (sym is) ∙ clash.1)

  none_drawn : (d : DrawopValue) (deeds : List Deed) (host : Opened) → host ≡ there → Honest deeds → Contains deeds (Does (Says (datagrams.Draw d))) → IsClash (becomes d host) → ⊥
  none_drawn d deeds host is honest c clash = drawing_never_clashes numbers 0 place deeds older apart honest d clash.0 c (ap (becomes d) (sym is) ∙ clash.1)

  abbrev NoClash : Option Host → DriverLine → Type 0
  NoClash s line = IsMemberAt there s → Honest (deeds_of_line tuning s line) → told_of s line ≡ batch_of (became.Clash k) → ⊥

  handed : (d : DrawopValue) (s : Option Host) → NoClash s (Script (lines.Arrive d))
  handed d None is honest e = no_text k e
  handed d (Some (Driven host board)) is honest e = none_arrives d (Does (Arrives d) ∷ []) host is honest (Contains-here (Does (Arrives d)) []) (only_clash k (becomes d host) e)
  handed d (Some (Kept it)) is honest e = no_text k e

  came_in : (now : ℕ) (d : DrawopValue) (s : Option Host) → NoClash s (Came now (datagrams.Draw d))
  came_in now d None is honest e = no_text k e
  came_in now d (Some (Driven host board)) is honest e = no_text k e
  came_in now d (Some (Kept it)) is honest e = none_arrives d (deeds_doing (came now (datagrams.Draw d)) it) it.host is honest (came_arrives now d it) (only_clash k (becomes d it.host) e)

  said : (d : DrawopValue) (s : Option Host) → NoClash s (Say (datagrams.Draw d))
  said d None is honest e = no_text k e
  said d (Some (Driven host board)) is honest e = none_drawn d (Does (Says (datagrams.Draw d)) ∷ []) host is honest (Contains-here (Does (Says (datagrams.Draw d))) []) (only_clash_unsent k (becomes d host) e)
  said d (Some (Kept it)) is honest e = no_text k e

  added : (a : Adding) (s : Option Host) → NoClash s (Add a)
  added a None is honest e = no_text k e
  added a (Some (Driven host board)) is honest e = no_text k e
  added a (Some (Kept it)) is honest e =
      let d = drawing (view_of it.host) a.page a.time a.op in
      none_drawn d (deeds_doing (adds a.moment a.page a.time a.op) it) it.host is honest (adds_says a it) (only_clash_unsent k (becomes d it.host) e)

  -- a line that is refused tells nothing
  given : (s : Option Host) (line : DriverLine) (r : Reply) → NoClash s line → IsMemberAt there s → Honest (deeds_by r (deeds_of_line tuning s line)) → told_by r (told_of s line) ≡ batch_of (became.Clash k) → ⊥
  given s line (prints next text) none is honest e = none is honest e
  given s line (denies fault) none is honest e = no_text k e

  by_line : (s : Option Host) (line : DriverLine) (read : Result DriverLine Refusal) → read ≡ Ok line → NoClash s line → IsMemberAt there s → Honest (deeds_by (reply tuning s read) (deeds_said tuning s read)) → told_by (reply tuning s read) (told_said s read) ≡ batch_of (became.Clash k) → ⊥
  by_line s line read same none is honest e = given s line (reply tuning s (Ok line)) none is
      (subst (λ (r : Result DriverLine Refusal). Honest (deeds_by (reply tuning s r) (deeds_said tuning s r))) same honest)
      (ap (λ (r : Result DriverLine Refusal). told_by (reply tuning s r) (told_said s r)) (sym same) ∙ e)

pub batches_count_no_clash : BatchesCountNoClash
batches_count_no_clash numbers older e line k apart numbered honest is brings told =
    let s = hosting_at older e.place in
    let steps = steps_of_texts older in
    let there = texts_are_sessions numbers older numbered.1 e.place in
    let now = subst (λ (event : TextEvent). AreHonest numbers (steps_then 0 e.place (deeds_of_event event s) steps)) is honest in
    let none = λ (said_line : DriverLine) (same : says_line (met line) ≡ Ok said_line) (free : NoClash numbers e.place steps apart s.tuning k s.host said_line).
    by_line numbers e.place steps apart s.tuning k s.host said_line (says_line (met line)) same free there now told in
    ⊎_elim
    (λ (hands : (d : DrawopValue) × HandsIn line (datagrams.Draw d)). ⊎_elim
    (λ (b : says_line (met line) ≡ Ok (Script (handed_in (datagrams.Draw hands.0)))). none (Script (lines.Arrive hands.0)) b (handed numbers e.place steps apart s.tuning k hands.0 s.host))
    (λ (b : (now : ℕ) × (says_line (met line) ≡ Ok (Came now (datagrams.Draw hands.0)))). none (Came b.0 (datagrams.Draw hands.0)) b.1 (came_in numbers e.place steps apart s.tuning k b.0 hands.0 s.host))
    hands.1)
    (λ (rest : ((d : DrawopValue) × (says_line (met line) ≡ Ok (Say (datagrams.Draw d)))) ⊎ ((a : Adding) × (says_line (met line) ≡ Ok (Add a)))). ⊎_elim
    (λ (b : (d : DrawopValue) × (says_line (met line) ≡ Ok (Say (datagrams.Draw d)))). none (Say (datagrams.Draw b.0)) b.1 (said numbers e.place steps apart s.tuning k b.0 s.host))
    (λ (b : (a : Adding) × (says_line (met line) ≡ Ok (Add a))). none (Add b.0) b.1 (added numbers e.place steps apart s.tuning k b.0 s.host))
    rest)
    brings
