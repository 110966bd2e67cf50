-- The seven bytes of a symbol, laid at their place. Assumes nothing.
use Prim.Native.Nat.{ℕ, ◌+◌, ◌≤◌, ◌/◌, ◌%◌, ◌<◌}
use mathlib.Core.Path.{◌≡◌, refl, sym, ◌∙◌}
use mathlib.Core.List.{List, [], ◌∷◌, append_assoc}
use native.Mathlib.Omega.{arith}
use lib.ListN.{length, take, drop, get_or}
use lib.Seq.{sets, sets-eq, drop-drop}
use borrow.Rule.Slice.PartMut.{put_mid}
use denote.Enum.Declared.{tag_of}
use Rattle.symbols.specs.declared.Kind.{Kind}
use Rattle.symbols.specs.declared.Kind.TheVariants.{Special, Word, Name, Numeral, Character, String}
use Rattle.symbols.specs.contracts.Kind.{the_type}
use Rattle.symbols.specs.Kinds.{kind_number}
use Rattle.symbols.specs.Steps.{SymbolRoom}
use Rattle.symbols.specs.Answer.{symbol_bytes}

pub number_is : (k : Kind) → tag_of the_type k + 1 ≡ kind_number k
unfolding kind_number
number_is Special = refl
number_is Word = refl
number_is Name = refl
number_is Numeral = refl
number_is Character = refl
number_is String = refl

laid_at : (out vs : List ℕ) (at k : ℕ) → k ≡ length vs → at + length vs ≤ length out → put_mid at k out vs ≡ sets out at vs
laid_at out vs at k e h = rw (e, drop-drop (length vs) at out) (sym (sets-eq vs out at h ∙ append_assoc (take at out) vs (drop (at + length vs) out)))

high_byte : (n : ℕ) → n < 65536 → n / 256 % 256 ≡ n / 256
high_byte n h = omega arith

-- a word's two bytes, low byte first
abbrev word : ℕ → List ℕ
word n = n % 256 ∷ n / 256 % 256 ∷ []

pub seven : (out new ls ps ss : List ℕ) (at k kind b line place size : ℕ) → new ≡ b ∷ get_or ls 0 0 ∷ get_or ls 1 0 ∷ get_or ps 0 0 ∷ get_or ps 1 0 ∷ get_or ss 0 0 ∷ get_or ss 1 0 ∷ []
    → b ≡ kind → ls ≡ word line → ps ≡ word place → ss ≡ word size → SymbolRoom out at line place size → k ≡ 7
    → put_mid at k out new ≡ sets out at (symbol_bytes (record { kind = kind; line = line; place = place; size = size }))
unfolding symbol_bytes
seven out new ls ps ss at k kind b line place size e f l p s r q =
    let bytes : List ℕ = symbol_bytes (record { kind = kind; line = line; place = place; size = size }) in
    let n : new ≡ bytes = rw (e, f, l, p, s, high_byte line r.line_word, high_byte place r.place_word, high_byte size r.size_word) in
    rw n (laid_at out bytes at k q r.room)
