-- Statements in a state, and in its twin that has every word marked. Assumes nothing.
use Prim.Native.Nat.{ℕ, zero, suc, ◌+◌, ◌-◌, ◌≤◌, ◌<◌}
use mathlib.Core.Path.{◌≡◌, refl, sym, ap, ◌∙◌}
use mathlib.Core.Bool.{true, not}
use mathlib.Core.List.{List, ◌++◌}
use native.Mathlib.Omega.{arith}
use lib.Dec.{eqb, leb}
use lib.ListN.{length, replicate, length-append, length-replicate}
use borrow.Author.Tests.{eqb-false, leb-true, ltb-false}
use Rattle.basics.specs.Choice.{both}
use Rattle.basics.specs.Cases.{cases}
use Rattle.basics.proofs.Bools.{both_l, both_r, both_false_l}
use Rattle.table.specs.Table.{Table}
use Rattle.table.specs.Entries.{stmt_count}
use Rattle.types.specs.Types.{NodeType, numbered}
use Rattle.types.specs.Match.{matching, is_equal}
use Rattle.sizes.specs.Sizes.{words_of}
use Rattle.sizes.specs.Kept.{words_in}
use Rattle.sizes.proofs.Strings.{equal_words}
use Rattle.machine.specs.Memory.{Memory, update, store}
use Rattle.machine.specs.Layout.{locations, location, record_at, top_at, holder_at, depth_at, created_at, link_at}
use Rattle.machine.specs.Marks.{marked, mark}
use Rattle.machine.specs.Outcomes.{Outcome, and_then, need}
use Rattle.machine.specs.Entries.{Opener, waits, repeats, Statement, skip, assign, local_call, process_call, create, start, opener, arm, end_arms, write, block_end, no_statement, stmt_at, type_at}
use Rattle.machine.specs.Context.{Context}
use Rattle.machine.specs.Space.{own_after, space_full}
use Rattle.machine.specs.Variables.{frame_words}
use Rattle.machine.specs.Operands.{operand}
use Rattle.machine.specs.Calls.{arguments, frame, top_after, pushed, frame_marked, call, popped, returns, return}
use Rattle.machine.specs.Processes.{on_process, refers, on_reference, created, started}
use Rattle.machine.specs.Statements.{Effect, effect, Choice, enters, skips, end_of, can_serve, go_to, go_on, wait, moved, do_assign, do_local_call, do_process_call, do_create, do_start, choose, chosen, do_opener, do_end, do_write, do_block_end, perform}
use Rattle.sound.specs.Conditions.{Selects, Gives, a_value, a_text}
use Rattle.sound.specs.Ruled.{CallChain}
use Rattle.sound.proofs.Evaluation.OperandSizes.{place_fits, place_area, gives_long}
use Rattle.sound.proofs.Memory.ProcessRecords.{location_end, refers_most, refers_some}
use Rattle.sound.proofs.StartValues.TwinOutcomes.{Meets, Equal, Same, same, gives, fails, strays, unset, m_then, m_test, m_where, m_unset, m_pick, m_place, m_typed, m_word, m_module, m_arms, m_opener}
use Rattle.sound.proofs.StartValues.Twins.{Twin, at_record, at_location, at_link, same_own, twin_store, twin_clear, twin_record, twin_word, twin_location, twin_marks, twin_fresh, twin_standing}
use Rattle.sound.proofs.StartValues.TwinOperands.{fits_room, operand_same, arguments_same}

-- effects: the same answer and page, and states that are twins
pub data Alike : Effect → Effect → Type 0 where
  alike : {a : ℕ} {m s d : Memory} → Twin m s → Alike (effect a m d) (effect a s d)

module _ (T : Table) (m s page : Memory) (x : Context) (t : Twin m s) (some : 1 ≤ x.process) (most : x.process ≤ 64)
    (works : 1 ≤ x.works) (last : x.works ≤ 64) (few : m created_at ≤ 64)
    (room : (m (depth_at x.process) ≡ 0 → ⊥) → x.frame + 4 ≤ 256)
    (chained : CallChain T m x.process (m (depth_at x.process)) x.frame x.works x.statement (m (top_at x.process))) where
  own : (k : ℕ) → k < 10 → s (record_at x.process k) ≡ m (record_at x.process k)
  own k l = at_record m s t x.process k (omega arith)

  count : s created_at ≡ m created_at
  count = at_record m s t 1 8 (omega arith)

  operands : (n : ℕ) → Same (operand T m page x n) (operand T s page x n)
  operands n = operand_same T m s page x t most n

  holder : (v : ℕ) → Twin (update m (holder_at x.works) v) (update s (holder_at x.works) v)
  holder v = twin_word m s t x.works 6 v (omega arith)

  goes : (m' s' : Memory) (c : ℕ) → Twin m' s' → Meets Alike (go_to T m page x m' c) (go_to T s page x s' c)
  unfolding go_to
  goes m' s' c h = gives (alike (twin_word m' s' h x.process 2 c (omega arith)))

  goes_on : (m' s' : Memory) → Twin m' s' → Meets Alike (go_on T m page x m') (go_on T s page x s')
  unfolding go_on
  goes_on m' s' h = goes m' s' (x.statement + 1) h

  waits_alike : (m' s' : Memory) → Twin m' s' → Meets Alike (wait T m page x m') (wait T s page x s')
  unfolding wait
  waits_alike m' s' h = gives (alike h)

  moves : (o u : Outcome Memory) → Meets Twin o u → Meets Alike (moved T m page x o) (moved T s page x u)
  unfolding moved and_then
  moves _ _ (gives h) = gives (alike h)
  moves _ _ fails = fails
  moves _ _ strays = strays
  moves _ _ unset = unset

  stores : (a b i τ : ℕ) (κ : NodeType) (ws : List ℕ) → Selects T m page x a i τ → Gives T m page x b κ ws
      → Meets Alike (need (is_equal (matching T (numbered τ) κ)) (go_on T m page x (mark (store m i ws) i (length ws))))
      (need (is_equal (matching T (numbered τ) κ)) (go_on T s page x (mark (store s i ws) i (length ws))))
  unfolding words_in
  stores a b i τ κ ws e q =
      m_test Alike (is_equal (matching T (numbered τ) κ)) _ _ (λ h.
      let l = fits_room T i τ (place_fits T m page x a i τ e) in
      let n = gives_long T m page x b κ ws q in
      let w : words_of T τ ≡ words_in T κ = equal_words T (numbered τ) κ h in
      goes_on _ _ (twin_marks _ _ (twin_store m s t i ws (omega arith)) i (length ws) true true refl))

  assigns : (a b : ℕ) → Meets Alike (do_assign T m page x a b) (do_assign T s page x a b)
  unfolding do_assign
  assigns a b =
      m_place Alike (operand T m page x a) (operand T s page x a) _ _ (operands a) (λ i τ e.
      m_typed Alike (operand T m page x b) (operand T s page x b) _ _ (operands b)
      (λ σ ws q. stores a b i τ (numbered σ) ws e (a_value q)) (λ ws q. stores a b i τ (NodeType.string (length ws)) ws e (a_text q)))

  -- ---- calls

  top_same : (q : ℕ) → top_after T s page x q ≡ top_after T m page x q
  unfolding top_after
  top_same q = rw (own 4 (omega arith))

  frame_long : (q : ℕ) (ws : List ℕ) → length ws ≤ frame_words T q → length (frame T m page x q ws) ≡ 4 + frame_words T q
  unfolding frame
  frame_long q ws l =
      let e : length (ws ++ replicate (frame_words T q - length ws) 0) ≡ frame_words T q = length-append ws (replicate (frame_words T q - length ws) 0) ∙ rw (length-replicate {A = ℕ} (frame_words T q - length ws) 0) (omega arith) in
      omega arith

  frame_same : (q : ℕ) (ws : List ℕ) → frame T s page x q ws ≡ frame T m page x q ws
  unfolding frame
  frame_same q ws = refl

  topped : (q n : ℕ) → n ≡ 4 + frame_words T q → top_after T m page x q ≤ 256 → m (top_at x.process) + n ≤ 256
  unfolding top_after
  topped q n e g = omega arith

  pushes : (m' s' : Memory) (q r : ℕ) (ws : List ℕ) → Twin m' s' → length ws ≤ frame_words T q → top_after T m page x q ≤ 256
      → Twin (pushed T m page x m' q r ws) (pushed T s page x s' q r ws)
  unfolding pushed
  pushes m' s' q r ws h l g =
      let e = frame_long q ws l in
      rw (own 4 (omega arith), own 7 (omega arith), top_same q, frame_same q ws)
      (twin_standing _ _ x.process _ _ _ _ _ some most
      (twin_store m' s' h _ (frame T m page x q ws) (location_end x.process (m (top_at x.process)) (length (frame T m page x q ws)) most (topped q _ e g))))

  calls : (m' s' : Memory) (q r : ℕ) (ws : List ℕ) → Twin m' s' → Meets Twin (call T m page x m' q r ws) (call T s page x s' q r ws)
  unfolding call frame_marked
  calls m' s' q r ws h =
      rw (top_same q, own 4 (omega arith), own 7 (omega arith))
      (m_test Twin _ _ _ (λ l. m_where Twin _ 22 _ _ (λ g. m_test Twin _ _ _ (λ d.
      gives (twin_fresh _ _ (twin_marks _ _ (pushes m' s' q r ws h (leb-true _ _ l) (ltb-false 256 _ g)) _ _ true true refl) _ _)))))

  space_same : (q : ℕ) → space_full T s x q ≡ space_full T m x q
  unfolding space_full own_after
  space_same q = rw (own 1 (omega arith), own 7 (omega arith), same_own m s t T x.process _ x.frame _ _ _ most chained)

  local_calls : (q c d : ℕ) → Meets Alike (do_local_call T m page x q c d) (do_local_call T s page x q c d)
  unfolding do_local_call
  local_calls q c d =
      m_test Alike _ _ _ (λ h. m_then Alike (arguments T m page x q c d) (arguments T s page x q c d) _ _ (arguments_same T m s page x t most q c d)
      (λ ws e. rw (space_same q) (m_where Alike _ 22 _ _ (λ o. moves _ _ (calls m s q x.works ws t)))))

  -- ---- references

  refers_same : (μ r : ℕ) → refers s μ r ≡ refers m μ r
  unfolding refers
  refers_same μ r =
      rw count
      (cases (both (leb 2 r) (leb r (m created_at)))
      (λ e.
      let a = leb-true 2 r (both_l _ _ e) in
      let b = leb-true r (m created_at) (both_r _ _ e) in
      rw (at_record m s t r 1 (omega arith)))
      (λ e. both_false_l _ _ e ∙ sym (both_false_l _ _ e)))

  m_reference : (i μ : ℕ) (f g : ℕ → Outcome Effect) → i < locations → ((r : ℕ) → 1 ≤ r → r ≤ 64 → Meets Alike (f r) (g r))
      → Meets Alike (on_reference m i μ f) (on_reference s i μ g)
  unfolding on_reference
  m_reference i μ f g l h =
      m_unset Alike _ (not (marked s i)) _ _ (ap not (t.set i l))
      (rw (at_location m s t i l, refers_same μ (m i))
      (m_where Alike _ 19 _ _ (λ z. m_test Alike _ _ _ (λ e. h (m i) (refers_some m μ (m i) e) (refers_most m few μ (m i) e)))))

  m_process : (a : ℕ) (f g : ℕ → ℕ → Outcome Effect) → ((i μ : ℕ) → i < locations → Meets Alike (f i μ) (g i μ))
      → Meets Alike (on_process T (operand T m page x a) f) (on_process T (operand T s page x a) g)
  unfolding on_process
  m_process a f g h =
      m_place Alike (operand T m page x a) (operand T s page x a) _ _ (operands a) (λ i τ e.
      m_module Alike (type_at T τ) _ _ (λ μ. h i μ (place_area T m page x a i τ e)))

  free_same : (r : ℕ) → 1 ≤ r → r ≤ 64 → can_serve s r ≡ can_serve m r
  unfolding can_serve
  free_same r a b = rw (at_record m s t r 0 (omega arith), at_record m s t r 6 (omega arith))

  process_calls : (a q c d : ℕ) → Meets Alike (do_process_call T m page x a q c d) (do_process_call T s page x a q c d)
  unfolding do_process_call
  process_calls a q c d =
      m_process a _ _ (λ i μ l. m_test Alike _ _ _ (λ h. m_reference i μ _ _ l (λ r u v.
      rw (free_same r u v)
      (m_pick Alike (can_serve m r) _ _ _ _
      (λ e. m_then Alike (arguments T m page x q c d) (arguments T s page x q c d) _ _ (arguments_same T m s page x t most q c d)
      (λ ws g. moves _ _ (calls _ _ q r ws (twin_word m s t r 6 x.process (omega arith)))))
      (λ e. waits_alike m s t)))))

  -- ---- processes

  new : (n μ : ℕ) → 2 ≤ n → n ≤ 64 → Twin (created m n μ) (created s n μ)
  unfolding created
  new n μ a b =
      twin_word _ _ (twin_word _ _ (twin_word _ _
      (twin_record _ _ (twin_clear m s t (location n 0) 256 (location_end n 0 256 b (omega arith))) n a b)
      n 0 1 (omega arith)) n 1 μ (omega arith)) 1 8 n (omega arith)

  creates : (a : ℕ) → 1 ≤ m created_at → Meets Alike (do_create T m page x a) (do_create T s page x a)
  unfolding do_create
  creates a one =
      m_process a _ _ (λ i μ l.
      rw count
      (m_where Alike (eqb (m created_at) 64) 24 _ _ (λ e.
      let d = eqb-false (m created_at) 64 e in
      goes_on _ _ (twin_marks _ _ (twin_fresh _ _ (twin_location _ _ (new (m created_at + 1) μ (omega arith) (omega arith)) i (m created_at + 1) l) _ _) i 1 true true refl))))

  started_twin : (r μ : ℕ) (ws : List ℕ) → 1 ≤ r → r ≤ 64 → length ws ≤ 256 → Twin (started T m r μ ws) (started T s r μ ws)
  unfolding started
  started_twin r μ ws a b l =
      twin_standing _ _ r _ _ _ _ _ a b
      (twin_word _ _ (twin_word _ _ (twin_store m s t (location r 0) ws (location_end r 0 (length ws) b (omega arith))) r 0 2 (omega arith)) r 6 r (omega arith))

  starts : (a c d : ℕ) → Meets Alike (do_start T m page x a c d) (do_start T s page x a c d)
  unfolding do_start
  starts a c d =
      m_process a _ _ (λ i μ l. m_reference i μ _ _ l (λ r u v.
      rw (at_record m s t r 0 (omega arith))
      (m_where Alike _ 20 _ _ (λ e. m_then Alike (arguments T m page x μ c d) (arguments T s page x μ c d) _ _ (arguments_same T m s page x t most μ c d)
      (λ ws g. m_test Alike _ _ _ (λ h. goes_on _ _ (twin_marks _ _ (started_twin r μ ws u v (leb-true _ _ h)) _ _ true true refl)))))))

  -- ---- arms

  choose_same : (n i : ℕ) → Same (choose T m page x n i) (choose T s page x n i)
  unfolding choose
  choose_same zero i = strays
  choose_same (suc n) i =
      m_arms Equal (stmt_at T i) _ _ _ _
      (λ g l. m_word Equal (operand T m page x g) (operand T s page x g) 1 _ _ (operands g) (λ w.
      m_pick Equal (eqb w 0) _ _ _ _ (λ e. m_test Equal _ _ _ (λ h. choose_same n l)) (λ e. same _)))
      (λ l. same _)

  chooses : (k : Opener) (c : Choice) → Meets Alike (chosen T m page x k c) (chosen T s page x k c)
  unfolding chosen
  chooses k (enters i) = goes _ _ (i + 1) (cases (waits k) (λ e. rw e (holder x.process)) (λ e. rw e t))
  chooses k (skips i) = m_pick Alike (waits k) _ _ _ _ (λ e. waits_alike _ _ (holder 0)) (λ e. goes m s (i + 1) t)

  opens : (k : Opener) → Meets Alike (do_opener T m page x k) (do_opener T s page x k)
  unfolding do_opener
  opens k =
      m_arms Alike (stmt_at T (x.statement + 1)) _ _ _ _
      (λ g l. m_then Alike (choose T m page x (stmt_count T) (x.statement + 1)) (choose T s page x (stmt_count T) (x.statement + 1)) _ _
      (choose_same (stmt_count T) (x.statement + 1)) (λ c e. chooses k c))
      (λ l. strays)

  end_alike : (n i : ℕ) (f g : ℕ → ℕ → Outcome Effect) → ((a b : ℕ) → Meets Alike (f a b) (g a b)) → Meets Alike (end_of T n i f) (end_of T n i g)
  unfolding end_of
  end_alike zero i f g h = strays
  end_alike (suc n) i f g h =
      m_arms Alike (stmt_at T i) _ _ _ _ (λ a l. m_test Alike _ _ _ (λ e. end_alike n l f g h)) (λ l. h i l)

  ends : Meets Alike (do_end T m page x) (do_end T s page x)
  unfolding do_end
  ends =
      end_alike (stmt_count T) x.statement _ _ (λ i link.
      m_opener Alike (stmt_at T link) _ _ (λ k. m_pick Alike (repeats k) _ _ _ _ (λ e. goes m s link t) (λ e. goes m s (i + 1) t)))

  -- ---- devices, and ends of blocks

  writes : (a b : ℕ) → Meets Alike (do_write T m page x a b) (do_write T s page x a b)
  unfolding do_write
  writes a b =
      m_word Alike (operand T m page x a) (operand T s page x a) 0 _ _ (operands a) (λ i.
      m_word Alike (operand T m page x b) (operand T s page x b) 0 _ _ (operands b) (λ v.
      m_where Alike _ 21 _ _ (λ e. gives (alike (twin_word m s t x.process 2 (x.statement + 1) (omega arith))))))

  link_same : (k : ℕ) → k < 4 → x.frame + 4 ≤ 256 → s (link_at x.process x.frame k) ≡ m (link_at x.process x.frame k)
  link_same k h l = at_link m s t x.process x.frame k most l h

  pops : (m' s' : Memory) (c : ℕ) → x.frame + 4 ≤ 256 → Twin m' s' → Twin (popped T m page x m' c) (popped T s page x s' c)
  unfolding popped
  pops m' s' c l h =
      rw (link_same 0 (omega arith) l, link_same 2 (omega arith) l, own 7 (omega arith))
      (twin_standing m' s' x.process _ _ _ _ _ some most h)

  returns_twin : (c : ℕ) (S : Statement) → x.frame + 4 ≤ 256 → Meets Twin (returns T m page x c S) (returns T s page x c S)
  unfolding returns
  returns_twin c skip l = strays
  returns_twin c (assign a b) l = strays
  returns_twin c (local_call q i d) l = gives (pops m s c l t)
  returns_twin c (process_call a q i d) l = gives (pops _ _ c l (holder 0))
  returns_twin c (create a) l = strays
  returns_twin c (start a i d) l = strays
  returns_twin c (opener k) l = strays
  returns_twin c (arm g k) l = strays
  returns_twin c (end_arms k) l = strays
  returns_twin c (write a b) l = strays
  returns_twin c block_end l = strays
  returns_twin c no_statement l = strays

  return_twin : x.frame + 4 ≤ 256 → Meets Twin (return T m page x) (return T s page x)
  unfolding return
  return_twin l = rw (link_same 1 (omega arith) l) (returns_twin _ _ l)

  block_ends : Meets Alike (do_block_end T m page x) (do_block_end T s page x)
  unfolding do_block_end
  block_ends =
      rw (own 7 (omega arith))
      (m_pick Alike (eqb (m (depth_at x.process)) 0) _ _ _ _
      (λ e. gives (alike (twin_word _ _ (twin_word m s t x.process 0 3 (omega arith)) x.process 6 0 (omega arith))))
      (λ e. moves _ _ (return_twin (room (eqb-false _ 0 e)))))

  -- A STATEMENT in the twin
  pub performs_alike : (S : Statement) → 1 ≤ m created_at → Meets Alike (perform T m page x S) (perform T s page x S)
  unfolding perform
  performs_alike skip one = goes_on m s t
  performs_alike (assign a b) one = assigns a b
  performs_alike (local_call q c d) one = local_calls q c d
  performs_alike (process_call a q c d) one = process_calls a q c d
  performs_alike (create a) one = creates a one
  performs_alike (start a c d) one = starts a c d
  performs_alike (opener k) one = opens k
  performs_alike (arm g l) one = ends
  performs_alike (end_arms l) one = ends
  performs_alike (write a b) one = writes a b
  performs_alike block_end one = block_ends
  performs_alike no_statement one = strays
