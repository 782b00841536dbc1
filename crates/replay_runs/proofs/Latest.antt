-- The latest moment of frames.
use Rattle.std.proofs.Common.{◌≡◌, ℕ, ◌+◌, ◌<◌, List, length, map, max, drop, get_or, sym, ap, ◌∙◌, arith}
use Rattle.std.proofs.lemmas.List.{drop_more}
use Rattle.packet_headers.specs.declared.frame.Frame.{Frame}
use Rattle.packet_path.specs.Packet.{given_of}
use Rattle.replay_runs.specs.Report.{latest}

-- one frame more
pub latest_next : (zone : ℕ) (bytes : List ℕ) (frames all : List Frame) (index before now : ℕ) (d : Frame) → all ≡ frames → index < length all
    → now ≡ max before (get_or all index d).moment
    → latest now (map (given_of zone bytes) (drop (index + 1) frames)) ≡ latest before (map (given_of zone bytes) (drop index frames))
unfolding given_of
latest_next zone bytes frames all index before now d same below is =
    ap (λ (k : ℕ). latest k (map (given_of zone bytes) (drop (index + 1) frames)))
    (is ∙ ap (λ (xs : List Frame). max before (get_or xs index d).moment) same)
    ∙ sym (ap (λ (xs : List Frame). latest before (map (given_of zone bytes) xs))
    (drop_more frames index d (omega (arith, below, ap length same))))
