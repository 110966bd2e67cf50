-- A case for each kind of types, nodes and statements, and one for the numbers that are no kinds. Assumes nothing.
use Prim.Native.Nat.{ℕ, zero, suc}

-- 0 is no kind of types
pub type_kinds :
    (P : ℕ → Type 0) → P 0 → P 1 → P 2 → P 3 → ((k : ℕ) → P (suc (suc (suc (suc k))))) → (k : ℕ) → P k
type_kinds P p0 p1 p2 p3 r zero = p0
type_kinds P p0 p1 p2 p3 r (suc zero) = p1
type_kinds P p0 p1 p2 p3 r (suc (suc zero)) = p2
type_kinds P p0 p1 p2 p3 r (suc (suc (suc zero))) = p3
type_kinds P p0 p1 p2 p3 r (suc (suc (suc (suc k)))) = r k

-- nodes
pub node_kinds :
    (P : ℕ → Type 0) → P 0 → P 1 → P 2 → P 3 → P 4 → P 5 → P 6 → P 7 → P 8 → ((k : ℕ) → P (suc (suc (suc (suc (suc (suc (suc (suc (suc k)))))))))) → (k : ℕ) → P k
node_kinds P p0 p1 p2 p3 p4 p5 p6 p7 p8 r zero = p0
node_kinds P p0 p1 p2 p3 p4 p5 p6 p7 p8 r (suc zero) = p1
node_kinds P p0 p1 p2 p3 p4 p5 p6 p7 p8 r (suc (suc zero)) = p2
node_kinds P p0 p1 p2 p3 p4 p5 p6 p7 p8 r (suc (suc (suc zero))) = p3
node_kinds P p0 p1 p2 p3 p4 p5 p6 p7 p8 r (suc (suc (suc (suc zero)))) = p4
node_kinds P p0 p1 p2 p3 p4 p5 p6 p7 p8 r (suc (suc (suc (suc (suc zero))))) = p5
node_kinds P p0 p1 p2 p3 p4 p5 p6 p7 p8 r (suc (suc (suc (suc (suc (suc zero)))))) = p6
node_kinds P p0 p1 p2 p3 p4 p5 p6 p7 p8 r (suc (suc (suc (suc (suc (suc (suc zero))))))) = p7
node_kinds P p0 p1 p2 p3 p4 p5 p6 p7 p8 r (suc (suc (suc (suc (suc (suc (suc (suc zero)))))))) = p8
node_kinds P p0 p1 p2 p3 p4 p5 p6 p7 p8 r (suc (suc (suc (suc (suc (suc (suc (suc (suc k))))))))) = r k

-- statements
pub stmt_kinds :
    (P : ℕ → Type 0) → P 0 → P 1 → P 2 → P 3 → P 4 → P 5 → P 6 → P 7 → P 8 → P 9 → P 10 → P 11 → P 12 → P 13 → ((k : ℕ) → P (suc (suc (suc (suc (suc (suc (suc (suc (suc (suc (suc (suc (suc (suc k))))))))))))))) → (k : ℕ) → P k
stmt_kinds P p0 p1 p2 p3 p4 p5 p6 p7 p8 p9 p10 p11 p12 p13 r zero = p0
stmt_kinds P p0 p1 p2 p3 p4 p5 p6 p7 p8 p9 p10 p11 p12 p13 r (suc zero) = p1
stmt_kinds P p0 p1 p2 p3 p4 p5 p6 p7 p8 p9 p10 p11 p12 p13 r (suc (suc zero)) = p2
stmt_kinds P p0 p1 p2 p3 p4 p5 p6 p7 p8 p9 p10 p11 p12 p13 r (suc (suc (suc zero))) = p3
stmt_kinds P p0 p1 p2 p3 p4 p5 p6 p7 p8 p9 p10 p11 p12 p13 r (suc (suc (suc (suc zero)))) = p4
stmt_kinds P p0 p1 p2 p3 p4 p5 p6 p7 p8 p9 p10 p11 p12 p13 r (suc (suc (suc (suc (suc zero))))) = p5
stmt_kinds P p0 p1 p2 p3 p4 p5 p6 p7 p8 p9 p10 p11 p12 p13 r (suc (suc (suc (suc (suc (suc zero)))))) = p6
stmt_kinds P p0 p1 p2 p3 p4 p5 p6 p7 p8 p9 p10 p11 p12 p13 r (suc (suc (suc (suc (suc (suc (suc zero))))))) = p7
stmt_kinds P p0 p1 p2 p3 p4 p5 p6 p7 p8 p9 p10 p11 p12 p13 r (suc (suc (suc (suc (suc (suc (suc (suc zero)))))))) = p8
stmt_kinds P p0 p1 p2 p3 p4 p5 p6 p7 p8 p9 p10 p11 p12 p13 r (suc (suc (suc (suc (suc (suc (suc (suc (suc zero))))))))) = p9
stmt_kinds P p0 p1 p2 p3 p4 p5 p6 p7 p8 p9 p10 p11 p12 p13 r (suc (suc (suc (suc (suc (suc (suc (suc (suc (suc zero)))))))))) = p10
stmt_kinds P p0 p1 p2 p3 p4 p5 p6 p7 p8 p9 p10 p11 p12 p13 r (suc (suc (suc (suc (suc (suc (suc (suc (suc (suc (suc zero))))))))))) = p11
stmt_kinds P p0 p1 p2 p3 p4 p5 p6 p7 p8 p9 p10 p11 p12 p13 r (suc (suc (suc (suc (suc (suc (suc (suc (suc (suc (suc (suc zero)))))))))))) = p12
stmt_kinds P p0 p1 p2 p3 p4 p5 p6 p7 p8 p9 p10 p11 p12 p13 r (suc (suc (suc (suc (suc (suc (suc (suc (suc (suc (suc (suc (suc zero))))))))))))) = p13
stmt_kinds P p0 p1 p2 p3 p4 p5 p6 p7 p8 p9 p10 p11 p12 p13 r (suc (suc (suc (suc (suc (suc (suc (suc (suc (suc (suc (suc (suc (suc k)))))))))))))) = r k
