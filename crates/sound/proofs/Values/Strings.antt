-- Strings: a value of a string type is so many characters, and so many characters are a value of it; types that match. Assumes nothing.
use Prim.Native.Nat.{ℕ, ◌+◌, ◌*◌, ◌≤◌, ◌<◌}
use mathlib.Core.Path.{◌≡◌, sym, ◌∙◌}
use mathlib.Core.Bool.{true, false}
use mathlib.Core.List.{List}
use native.Mathlib.Omega.{arith}
use native.Mathlib.Nat.{mul-one}
use lib.ListN.{length, get_or, get_or-eq_default}
use lib.Dec.{ltb}
use borrow.Author.Tests.{leb-true, le-leb, ltb-true, ltb-false}
use Rattle.basics.specs.Choice.{both}
use Rattle.basics.specs.Cases.{cases}
use Rattle.basics.proofs.Bools.{no_true, both_l, both_r}
use Rattle.table.specs.Table.{Table}
use Rattle.table.specs.Entries.{type_kind, type_q}
use Rattle.types.specs.Types.{NodeType, numbered, string}
use Rattle.types.proofs.Matching.{declared_from, equal_cases}
use Rattle.types.specs.Match.{elements, is_string, is_text, characters, same_number, matching, is_equal, is_fit}
use Rattle.sizes.specs.Sizes.{words_of}
use Rattle.sizes.proofs.Counting.{words_standard}
use Rattle.sizes.proofs.Strings.{string_kind, string_words}
use Rattle.machine.specs.Memory.{Memory, store, words_at}
use Rattle.machine.specs.Layout.{record_at, created_at, module_at}
use Rattle.machine.specs.Texts.{fit}
use Rattle.machine.specs.Processes.{refers}
use Rattle.machine.specs.Values.{holds}
use Rattle.machine.proofs.Memories.{words-at, store_below, store_at, words_store}
use Rattle.machine.proofs.TextLaws.{fit_long, fit_at}
use Rattle.sound.specs.Claims.{Keeps, IsValue, IsText, Words}
use Rattle.sound.proofs.Values.ValuesByKind.{character_is, element_holds, array_holds}

-- ---- values of string types

-- a location beyond the control records of all processes
beyond : Memory → ℕ
beyond m = 20000 + m created_at * 20

beyond_keeps : (m : Memory) (ws : List ℕ) → Keeps m (store m (beyond m) ws)
unfolding refers record_at beyond
beyond_keeps m ws =
    record {
      refs = λ μ r e.
          let l = leb-true r (m created_at) (both_r _ _ (both_l _ _ e)) in
          rw (store_below m (beyond m) ws created_at (omega arith), store_below m (beyond m) ws (module_at r) (omega arith)) e;
    }

module _ (T : Table) (τ : ℕ) (t : is_string T τ ≡ true) where
  array : type_kind T τ ≡ 2
  array = (string_kind T τ t).0

  element : type_q T τ ≡ 2
  element = (string_kind T τ t).1

  lower : type_q T τ < τ
  lower = let d = declared_from T τ 2 array (omega arith) in let e = element in omega arith

  long : words_of T τ ≡ elements T τ
  long = string_words T τ t

  module _ (m : Memory) (a : ℕ) where
    letters_hold : ((i : ℕ) → i < elements T τ → m (a + i) ≤ 127) → holds T m τ a ≡ true
    letters_hold h =
        array_holds T m a τ array (λ i l. (lower, rw (element, words_standard T 2 (omega arith), mul-one i, character_is T m (a + i)) (le-leb (m (a + i)) 127 (h i l))))

    hold_letters : holds T m τ a ≡ true → (i : ℕ) → i < elements T τ → m (a + i) ≤ 127
    hold_letters h i l =
        let x : holds T m 2 (a + i * words_of T 2) ≡ true = rw element at (element_holds T m a τ array h i l).1 in
        let y : holds T m 2 (a + i) ≡ true = rw (words_standard T 2 (omega arith), mul-one i) at x in
        leb-true (m (a + i)) 127 (sym (character_is T m (a + i)) ∙ y)

  module _ (m : Memory) (ws : List ℕ) where
    -- so many characters are a value
    pub text_value : IsText (elements T τ) ws → IsValue T m τ ws
    text_value x =
        record {
          long = x.long ∙ sym long;
          anywhere = λ n a keeps q. letters_hold n a (λ i l.
              let s = long in
              let e : get_or (words_at n a (words_of T τ)) i 0 ≡ n (a + i) = words-at n a (words_of T τ) i (omega arith) in
              let d : get_or ws i 0 ≡ n (a + i) = rw q at e in
              let y = x.letters i in
              omega arith);
        }

    -- and a value is so many
    value_letter : IsValue T m τ ws → (i : ℕ) → i < length ws → get_or ws i 0 ≤ 127
    value_letter v i l =
        let s = long in
        let e = v.long in
        let n = store m (beyond m) ws in
        let h = v.anywhere n (beyond m) (beyond_keeps m ws) (rw (← v.long) (words_store m (beyond m) ws)) in
        let x = hold_letters n (beyond m) h i (omega arith) in
        let y = store_at m (beyond m) ws i l in
        omega arith

    pub value_text : IsValue T m τ ws → IsText (elements T τ) ws
    value_text v =
        record {
          long = v.long ∙ long;
          letters = λ i. cases (ltb i (length ws))
              (λ e. value_letter v i (ltb-true i (length ws) e))
              (λ e. rw (get_or-eq_default ws 0 {n = i} (ltb-false i (length ws) e)) (omega arith));
        }

-- a text that is filled or cut
pub fit_text : (n k : ℕ) (ws : List ℕ) → IsText k ws → IsText n (fit n ws)
fit_text n k ws x =
    record {
      long = fit_long n ws;
      letters = λ i. cases (ltb i n)
          (λ e. rw (fit_at n ws i (ltb-true i n e)) (x.letters i))
          (λ e.
          let g = ltb-false i n e in
          let l = fit_long n ws in
          rw (get_or-eq_default (fit n ws) 0 {n = i} (omega arith)) (omega arith));
    }

-- ---- types that match

module _ (T : Table) (a b : NodeType) where
  -- fitted types are strings
  fitted_texts : is_fit (matching T a b) ≡ true → is_equal (matching T a b) ≡ false → (is_text T a ≡ true) × (is_text T b ≡ true)
  unfolding matching both is_equal is_fit
  fitted_texts h g =
      cases (same_number a b) (λ e. no_true (sym (rw e at g)))
      (λ e. cases (is_text T a)
      (λ i. cases (is_text T b) (λ j. (i, j)) (λ j. no_true (rw (e, i, j) at h)))
      (λ i. no_true (rw (e, i) at h)))

module _ (T : Table) (m : Memory) (κ : NodeType) (ws : List ℕ) (w : Words T m κ ws) where
  -- the words of a string are its characters
  text_of : is_text T κ ≡ true → IsText (characters T κ) ws
  text_of e = go κ w e
    where
      go : (ν : NodeType) → Words T m ν ws → is_text T ν ≡ true → IsText (characters T ν) ws
      go (numbered τ) v e = unfold Words is_text characters in value_text T τ e m ws v
      go (string k) v e = unfold Words is_text characters in v

  module _ (τ : ℕ) where
    same_value : κ ≡ numbered τ → IsValue T m τ ws
    same_value e = unfold Words in rw e at w

    string_value : is_text T κ ≡ true → is_string T τ ≡ true → characters T κ ≡ elements T τ → IsValue T m τ ws
    string_value i j k = text_value T τ j m ws (rw k at (text_of i))

    -- words of a type are a value of each type that is equal to it
    pub equal_value : is_equal (matching T κ (numbered τ)) ≡ true → IsValue T m τ ws
    unfolding is_text characters
    equal_value h = equal_cases T κ (numbered τ) h same_value string_value

    pub value_equal : is_equal (matching T (numbered τ) κ) ≡ true → IsValue T m τ ws
    unfolding is_text characters
    value_equal h = equal_cases T (numbered τ) κ h (λ e. same_value (sym e)) (λ j i k. string_value i j (sym k))

    -- filled or cut, of each that it is fitted to
    module _ (h : is_fit (matching T κ (numbered τ)) ≡ true) (g : is_equal (matching T κ (numbered τ)) ≡ false) where
      fitted_string : is_string T τ ≡ true
      unfolding is_text
      fitted_string = (fitted_texts T κ (numbered τ) h g).1

      pub fitted_text : IsText (elements T τ) (fit (words_of T τ) ws)
      fitted_text = rw (string_words T τ fitted_string) (fit_text (elements T τ) (characters T κ) ws (text_of (fitted_texts T κ (numbered τ) h g).0))

      pub fitted_value : IsValue T m τ (fit (words_of T τ) ws)
      fitted_value = text_value T τ fitted_string m (fit (words_of T τ) ws) fitted_text
