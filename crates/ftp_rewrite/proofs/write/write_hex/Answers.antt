use Rattle.std.proofs.Common.{◌≡◌, arith, drop, take}
use Rattle.ftp_rewrite.proofs.Writing.{hex_piece}
use Rattle.ftp_rewrite.proofs.write.write_hex.Goals as goal

pub pieces-preserved : goal.pieces-preserved
pieces-preserved g c =
    let is : c.split_at-in-pieces.result.0.now ≡ take c.min.result (drop c.pieces.done c.args.payload.now) = cc in
    record {
      within = omega arith;
      all = hex_piece c.args.payload.now c.split_at-in-pieces.result.0.now c.pieces.done c.min.result
          (g.K.Sink.tape c.args.out.now) (g.K.Sink.tape c.pieces.out) (g.K.Sink.tape c.write_piece.new.out) is c.pieces.invariant.all c.in_ok-write_piece.ensures.wrote;
    }
