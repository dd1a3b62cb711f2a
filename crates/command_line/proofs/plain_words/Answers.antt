use Rattle.command_line.proofs.Plain.{plain_both, plain_buses, plain_check, plain_covers, plain_depth, plain_gen, plain_netlist, plain_points, plain_progress, plain_prove, plain_reach, plain_recordings, plain_replay, plain_show, plain_unknown, plain_wave, show_behind, wave_behind}
use Rattle.command_line.proofs.Flags.{plain_options}
use Rattle.command_line.proofs.plain_words.Goals as goal

pub returns : goal.returns
returns c = record {
  wave = plain_wave;
  unknown = plain_unknown;
  points = plain_points;
  both = plain_both;
  show = plain_show;
  netlist = plain_netlist;
  prove = plain_prove;
  depth = plain_depth;
  reach = plain_reach;
  covers = plain_covers;
  progress = plain_progress;
  options = plain_options;
  recordings = plain_recordings;
  buses = plain_buses;
  replay = plain_replay;
  check = plain_check;
  wave_behind = wave_behind;
  show_behind = show_behind;
  generate = plain_gen;
}
