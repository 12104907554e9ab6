-- One sum more, or one that was refused.
use Rattle.std.proofs.Common.{ℕ, List, refl, ◌∙◌, arith}
use Rattle.just_path.specs.Path.{text_of}
use Rattle.just_sched_book.proofs.Summing.{summed_none, summed_more, summed_stop, summed_unasked, path_read}
use Rattle.just_sched_book.proofs.cached.sum_all.Goals as goal

pub returns-in-Err-clause-gains : goal.returns-in-Err-clause-gains
returns-in-Err-clause-gains g c = summed_unasked c.args.paths.now (g.H.Host.told c.args.host.now).entries

pub paths-init : goal.paths-init
paths-init g c = record {
  summed = summed_none c.args.paths.now c.in-Ok.sums.items (g.H.Host.told c.args.host.now).entries c.in-Ok.ensures.items;
  room = omega (arith, c.in-Ok.ensures.capacity);
  world = refl;
  spare = refl;
}

pub paths-preserved : goal.paths-preserved
paths-preserved g c = record {
  summed = summed_more c.args.paths.now c.paths.at (text_of c.as_path.result) c.paths.sums.items (g.H.Host.told c.args.host.now).entries (g.H.Host.told c.paths.host).entries (g.H.Host.told c.sum_at.new.host).entries c.paths-test.true
      (path_read c.args.paths.now c.paths.at (text_of c.as_path.result) c.index-paths-at.result c.paths-test.true c.as_path.ensures c.index-paths-at.is) c.paths.invariant.summed c.push_reserved.new.self.items c.in-Ok-sum_at.sum c.in-Ok-sum_at.ensures.gains.0 c.push_reserved.ensures.items c.in-Ok-sum_at.ensures.gains.1 c.in-Ok-sum_at.ensures.gains.2;
  room = omega (arith, c.paths.invariant.room, c.push_reserved.ensures.capacity);
  world = c.in-Ok-sum_at.ensures.world ∙ c.paths.invariant.world;
  spare = c.in-Ok-sum_at.ensures.spare ∙ c.paths.invariant.spare;
}

pub returns-in-Err-sum_at-clause-gains : goal.returns-in-Err-sum_at-clause-gains
returns-in-Err-sum_at-clause-gains g c =
    summed_stop c.args.paths.now c.paths.at (text_of c.as_path.result) c.paths.sums.items (g.H.Host.told c.args.host.now).entries (g.H.Host.told c.paths.host).entries (g.H.Host.told c.sum_at.new.host).entries c.paths-test.true
    (path_read c.args.paths.now c.paths.at (text_of c.as_path.result) c.index-paths-at.result c.paths-test.true c.as_path.ensures c.index-paths-at.is) c.paths.invariant.summed {A = List ℕ} (λ sum. sum) c.in-Err-sum_at.reason c.in-Err-sum_at.ensures.gains.0 c.in-Err-sum_at.ensures.gains.1 c.in-Err-sum_at.ensures.gains.2
