-- Clause 6.3.1: what the station list says of a service's components, 16 bits each as sent: TMId, 2 bits; type, 6; SubChId, 6; P/S; CA.
use Rattle.std.specs.Prelude.{Bool, cond, false, List, Option, Some, None, ℕ, ◌/◌, ◌%◌, eqb, ltb, find, option_map}
use Rattle.std.specs.List.{list_any}
use Rattle.fic_stations.specs.declared.Component.{Component}
use Rattle.fic_stations.specs.declared.Component.TheVariants.{«Audio» as audio, «Data» as data-stream, «Reserved» as reserved, «Packet» as packet}

abbrev pub is_primary : ℕ → Bool
is_primary w = eqb (w / 2 % 2) 1

abbrev pub sub_ch_id_in : ℕ → ℕ
sub_ch_id_in w = w / 4 % 64

-- by the TMId: a stream of audio, with its type, or of data, in a sub-channel; reserved; in packets
abbrev pub component_of : ℕ → Component
component_of w =
    cond (ltb w 16384) (audio (w / 256 % 64) (sub_ch_id_in w)) (cond (ltb w 32768) (data-stream (sub_ch_id_in w)) (cond (ltb w 49152) reserved packet))

-- the first one that is primary
abbrev pub primary_of : List ℕ → Option Component
primary_of ws = option_map component_of (find is_primary ws)

-- the sub-channel of a stream, audio or data
abbrev pub stream_of : Component → Option ℕ
stream_of (audio t id) = Some id
stream_of (data-stream id) = Some id
stream_of reserved = None
stream_of packet = None

-- a stream, audio or data, that is carried in a sub-channel, and whether there is one
abbrev pub carried_by : ℕ → ℕ → Bool
carried_by id w = cond (ltb w 32768) (eqb (sub_ch_id_in w) id) false

abbrev pub carried_in : ℕ → List ℕ → Bool
carried_in id ws = list_any (carried_by id) ws
