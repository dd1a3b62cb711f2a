use Rattle.std.proofs.Common.{length}
use Rattle.clauses.specs.declared.flat.TheConstants.{MOST_VARIABLES}
use Rattle.reach_frames.proofs.Cubes.{within_more}
use Rattle.test_reach.proofs.table.TableMachine.begins.Goals as goal

pub is_in_cube-requires : goal.is_in_cube-requires
is_in_cube-requires c = within_more (length c.args.self.now.start) MOST_VARIABLES c.args.cube.now c.args.self.now.few c.requires.within
