-- Calls of joyce_run cut anywhere leave the same. Assumes nothing.
use Prim.Native.Nat.{ℕ, ◌≤◌}
use mathlib.Core.Path.{◌≡◌, refl, sym, ap, ◌∙◌}
use mathlib.Core.List.{List, [], ◌∷◌, ◌++◌, append-nil}
use lib.ListN.{length}
use Rattle.words.specs.Bytes.{Bytes}
use Rattle.verdict.specs.Verdict.{verdict}
use Rattle.sound.specs.Histories.{page_left, Ask, call_of}
use Rattle.sound.specs.Cuts.{Piece, end_to_end, ask_of, in_turn, page_after, AllReturn}
use Rattle.sound.proofs.Theorems.CutsAgree.{cuts}
use Rattle.joyce.specs.Calls.{Call, Kept, Chained, Each, asks, answered}
use Rattle.joyce.specs.Cuts.{Lent, HandedOn, schedules, page_leaves, LeaveTheSame}
use Rattle.joyce.proofs.Logs.{result-is, state-is, page_is, written_is, written_are, leaves_is}

piece_of : (c : Call) → length c.ask.schedule ≤ length c.ask.answers → Piece
piece_of c r = record { schedule = c.ask.schedule; answers = c.ask.answers; room = r }

ask_so : (t d : List ℕ) (c : Call) (r : length c.ask.schedule ≤ length c.ask.answers) → c.ask.table ≡ t → c.ask.page ≡ d → ask_of t d (piece_of c r) ≡ c.ask
unfolding ask_of piece_of
ask_so t d c r e f = rw (← e, ← f)

ask_is : (t d : List ℕ) (c : Call) (l : Lent t d c) → ask_of t d (piece_of c l.room) ≡ c.ask
ask_is t d c l = ask_so t d c l.room l.table l.page

pieces : (t d : List ℕ) (cs : List Call) → HandedOn t d cs → List Piece
unfolding HandedOn
pieces t d [] h = []
pieces t d (c ∷ cs) (l, h) = piece_of c l.room ∷ pieces t c.page_after cs h

pieces_end : (t d : List ℕ) (cs : List Call) (h : HandedOn t d cs) → end_to_end (pieces t d cs h) ≡ schedules cs
unfolding HandedOn pieces piece_of end_to_end schedules
pieces_end t d [] h = refl
pieces_end t d (c ∷ cs) (l, h) = ap (λ (q : List ℕ). c.ask.schedule ++ q) (pieces_end t c.page_after cs h)

-- in the edition of width w
module _ (w : ℕ) where
  pieces_turn : (t s d : List ℕ) (cs : List Call) (h : HandedOn t d cs) → Chained w s cs → in_turn verdict w t s d (pieces t d cs h) ≡ asks cs
  unfolding HandedOn pieces in_turn asks Chained
  pieces_turn t s d [] h k = refl
  pieces_turn t s d (c ∷ cs) (l, h) (f, k) =
      rw (ask_is t d c l, state-is w s c f, page_is w s c f)
      (ap (λ (xs : List Ask). c.ask ∷ xs) (pieces_turn t c.state_after c.page_after cs h k))

  page-leaves : (s d : List ℕ) (cs : List Call) → Chained w s cs → page_after verdict w s d (asks cs) ≡ page_leaves d cs
  unfolding page_after page_leaves asks Chained
  page-leaves s d [] h = refl
  page-leaves s d (c ∷ cs) (f, h) =
      ap (λ (z : List ℕ). page_after verdict w z (page_left (call_of verdict w s c.ask)) (asks cs)) (state-is w s c f)
      ∙ ap (λ (z : List ℕ). page_after verdict w c.state_after z (asks cs)) (page_is w s c f)
      ∙ page-leaves c.state_after c.page_after cs h

  each_returns : (r : ℕ) (s : List ℕ) (cs : List Call) → Chained w s cs → AllReturn verdict w r s (asks cs) → Each (λ c. c.result ≡ r) cs
  unfolding AllReturn Each asks Chained
  each_returns r s [] h k = tt
  each_returns r s (c ∷ cs) (f, h) (e, k) = (sym (result-is w s c f) ∙ e, each_returns r c.state_after cs h (rw (state-is w s c f) at k))

  -- THE THEOREM: of calls that hand state and page on, one that names their schedules end to end leaves the same
  pub calls_cut : (t s d : List ℕ) → Bytes t → Bytes s → Bytes d → (u : Call) → Kept w s u → Lent t d u
      → (cs : List Call) → Chained w s cs → HandedOn t d cs → schedules cs ≡ u.ask.schedule → LeaveTheSame s d u cs
  unfolding piece_of answered
  calls_cut t s d bt bs bd u f l cs k h e =
      let c = cuts w t bt s d bs bd (piece_of u l.room) (pieces t d cs h) (pieces_end t d cs h ∙ e) in
      let a = ask_is t d u l in
      let i = pieces_turn t s d cs h k in
      record {
        results = each_returns u.result s cs k (rw (i, a, result-is w s u f) at c.results);
        state = sym (leaves_is w s cs k) ∙ (rw (i, a) at c.state) ∙ state-is w s u f;
        page = sym (page-leaves s d cs k) ∙ (rw (i, a) at c.page) ∙ page_is w s u f;
        answers = sym (written_are w s cs k) ∙ (rw (i, a) at c.answers) ∙ written_is w s u f ∙ sym (append-nil _);
      }
