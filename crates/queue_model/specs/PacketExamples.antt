-- Five traces of fillings by computation (document 02, 5/13), byte for byte, with their events. Assumes nothing.
use Rattle.std.specs.Prelude.{◌≡◌, refl, Bool, true, false, List, [], ◌∷◌, map, ℕ}
use Rattle.std.proofs.Math.Option.{Option, none, some}
use Rattle.queue_model.specs.Types.{Packet, Queue}
use Rattle.queue_model.specs.Streams.{new_queue}
use Rattle.queue_model.specs.Run.{Call, add, fill, set_interleaving, run}
use Rattle.queue_model.specs.Chunks.{padding, chunk_layout}
use Rattle.queue_model.specs.Examples.{answers, all_events, Row, ◌gives◌}

-- A message, and a packet to fill.
message : ℕ → ℕ → ℕ → Bool → Option ℕ → ℕ → List ℕ → Call
message now s ppid u l n bytes = add 100000 now (record { stream_id = s; ppid = ppid; unordered = u; max_retransmissions = none; lifetime = l; lifecycle_id = n; payload = bytes })

packet : ℕ → ℕ → ℕ → ℕ → ℕ → Packet
packet limit source destination tag tsn = record { limit = limit; source_port = source; destination_port = destination; verification_tag = tag; tsn = tsn }

-- A new queue with this payload limit.
queue_of : ℕ → Queue
unfolding new_queue
queue_of n = new_queue (record { payload_limit = n; store_length = 100000; default_priority = 256; default_threshold = 0; total_threshold = 0; handover_with_data = true; strict_restart = false })

shows_at : ℕ → List Call → List ℕ
unfolding answers run queue_of
shows_at n cs = answers (run cs (queue_of n))

fires_at : ℕ → List Call → List ℕ
unfolding all_events run queue_of
fires_at n cs = all_events (run cs (queue_of n))

-- Two streams, DATA; the TSNs wrap; nothing left: no packet.
data_calls : List Call
unfolding message packet
data_calls =
    message 0 5 53 false none 0 (198 ∷ 126 ∷ 129 ∷ 107 ∷ 75 ∷ 251 ∷ 226 ∷ 251 ∷ 84 ∷ 246 ∷ 189 ∷ 223 ∷ 124 ∷ 28 ∷ 225 ∷ 135 ∷ 1 ∷ 191 ∷ 49 ∷ 222 ∷ 86 ∷ 114 ∷ 15 ∷ 71 ∷ 103 ∷ 102 ∷ 135 ∷ 89 ∷ 170 ∷ 136 ∷ [])
    ∷ message 0 3 51 true none 0 (140 ∷ 33 ∷ 255 ∷ 114 ∷ 237 ∷ [])
    ∷ fill 100000 2305 70 0 (packet 64 5000 6000 3735928559 4294967295)
    ∷ fill 100000 2305 70 0 (packet 64 5000 6000 3735928559 1)
    ∷ fill 100000 2305 70 0 (packet 64 5000 6000 3735928559 2)
    ∷ []

-- Expired heads: their drops and events stand, also where no packet is written.
expired_calls : List Call
unfolding message packet
expired_calls =
    message 0 5 53 false (some 0) 7 (198 ∷ 126 ∷ 129 ∷ 107 ∷ 75 ∷ 251 ∷ 226 ∷ 251 ∷ 84 ∷ 246 ∷ 189 ∷ 223 ∷ 124 ∷ 28 ∷ 225 ∷ 135 ∷ 1 ∷ 191 ∷ 49 ∷ 222 ∷ 86 ∷ 114 ∷ 15 ∷ 71 ∷ 103 ∷ 102 ∷ 135 ∷ 89 ∷ 170 ∷ 136 ∷ [])
    ∷ message 0 5 53 false none 8 (140 ∷ 33 ∷ 255 ∷ 114 ∷ [])
    ∷ message 0 6 53 false (some 0) 9 (83 ∷ 195 ∷ 125 ∷ 120 ∷ [])
    ∷ fill 100000 2305 36 1000000 (packet 36 5000 6000 1 7)
    ∷ fill 100000 2305 36 1000000 (packet 36 5000 6000 1 8)
    ∷ []

-- Interleaving on, payload limit 12: I-DATA.
i_data_calls : List Call
unfolding message packet
i_data_calls =
    set_interleaving true
    ∷ message 0 5 53 false none 0 (198 ∷ 126 ∷ 129 ∷ 107 ∷ 75 ∷ 251 ∷ 226 ∷ 251 ∷ 84 ∷ 246 ∷ 189 ∷ 223 ∷ 124 ∷ 28 ∷ 225 ∷ 135 ∷ 1 ∷ 191 ∷ 49 ∷ 222 ∷ 86 ∷ 114 ∷ 15 ∷ 71 ∷ 103 ∷ 102 ∷ 135 ∷ 89 ∷ 170 ∷ 136 ∷ [])
    ∷ message 0 3 51 true none 0 (140 ∷ 33 ∷ 255 ∷ 114 ∷ 237 ∷ 215 ∷ 24 ∷ 217 ∷ 78 ∷ 19 ∷ 149 ∷ 19 ∷ 220 ∷ 27 ∷ 99 ∷ 252 ∷ 147 ∷ 6 ∷ 246 ∷ 191 ∷ [])
    ∷ fill 100000 2305 100 0 (packet 100 5000 6000 1 7)
    ∷ fill 100000 2305 100 0 (packet 100 5000 6000 1 10)
    ∷ fill 100000 2305 100 0 (packet 100 5000 6000 1 10)
    ∷ []

-- 20, 21, then 2, 3, 4, in this order; the least and the greatest packet limit.
refused_calls : List Call
unfolding message packet
refused_calls =
    message 0 5 53 false none 0 (198 ∷ 126 ∷ 129 ∷ 107 ∷ 75 ∷ 251 ∷ 226 ∷ 251 ∷ 84 ∷ 246 ∷ 189 ∷ 223 ∷ 124 ∷ 28 ∷ 225 ∷ 135 ∷ 1 ∷ 191 ∷ 49 ∷ 222 ∷ 86 ∷ 114 ∷ 15 ∷ 71 ∷ 103 ∷ 102 ∷ 135 ∷ 89 ∷ 170 ∷ 136 ∷ [])
    ∷ fill 100000 2305 100 0 (packet 35 1 2 3 4)
    ∷ fill 100000 2305 70000 0 (packet 65536 1 2 3 4)
    ∷ fill 100000 2305 35 0 (packet 36 1 2 3 4)
    ∷ fill 1 2304 100 0 (packet 35 1 2 3 4)
    ∷ fill 1 2304 36 0 (packet 36 1 2 3 4)
    ∷ fill 100000 2304 36 0 (packet 36 1 2 3 4)
    ∷ fill 100000 2305 36 4611686018427387904 (packet 36 1 2 3 4)
    ∷ fill 100000 2305 36 4611686018427387903 (packet 36 1 2 3 4)
    ∷ fill 100000 2305 65535 0 (packet 65535 1 2 3 5)
    ∷ []

-- A payload limit of 10 is asked for whole: "rounded down to a multiple of 4, at most the payload limit", in this order.
limit_calls : List Call
unfolding message packet
limit_calls = message 0 5 53 false none 0 (198 ∷ 126 ∷ 129 ∷ 107 ∷ 75 ∷ 251 ∷ 226 ∷ 251 ∷ 84 ∷ 246 ∷ 189 ∷ 223 ∷ 124 ∷ 28 ∷ 225 ∷ 135 ∷ 1 ∷ 191 ∷ 49 ∷ 222 ∷ 86 ∷ 114 ∷ 15 ∷ 71 ∷ 103 ∷ []) ∷ fill 100000 2305 100 0 (packet 100 5000 5001 9 7) ∷ []

pub packets : List Row
unfolding data_calls expired_calls i_data_calls refused_calls limit_calls shows_at fires_at
packets =
    (shows_at 1000 data_calls gives (2 ∷ 19 ∷ 136 ∷ 23 ∷ 112 ∷ 222 ∷ 173 ∷ 190 ∷ 239 ∷ 0 ∷ 0 ∷ 0 ∷ 0 ∷ 0 ∷ 7 ∷ 0 ∷ 21 ∷ 255 ∷ 255 ∷ 255 ∷ 255 ∷ 0 ∷ 3 ∷ 0 ∷ 0 ∷ 0 ∷ 0 ∷ 0 ∷ 51 ∷ 140 ∷ 33 ∷ 255 ∷ 114 ∷ 237 ∷ 0 ∷ 0 ∷ 0 ∷ 0 ∷ 2 ∷ 0 ∷ 28 ∷ 0 ∷ 0 ∷ 0 ∷ 0 ∷ 0 ∷ 5 ∷ 0 ∷ 0 ∷ 0 ∷ 0 ∷ 0 ∷ 53 ∷ 198 ∷ 126 ∷ 129 ∷ 107 ∷ 75 ∷ 251 ∷ 226 ∷ 251 ∷ 84 ∷ 246 ∷ 189 ∷ 223 ∷ 1 ∷ 19 ∷ 136 ∷ 23 ∷ 112 ∷ 222 ∷ 173 ∷ 190 ∷ 239 ∷ 0 ∷ 0 ∷ 0 ∷ 0 ∷ 0 ∷ 1 ∷ 0 ∷ 34 ∷ 0 ∷ 0 ∷ 0 ∷ 1 ∷ 0 ∷ 5 ∷ 0 ∷ 0 ∷ 0 ∷ 0 ∷ 0 ∷ 53 ∷ 124 ∷ 28 ∷ 225 ∷ 135 ∷ 1 ∷ 191 ∷ 49 ∷ 222 ∷ 86 ∷ 114 ∷ 15 ∷ 71 ∷ 103 ∷ 102 ∷ 135 ∷ 89 ∷ 170 ∷ 136 ∷ 0 ∷ 0 ∷ 0 ∷ []))
    ∷ (fires_at 1000 data_calls gives (1 ∷ 3 ∷ 0 ∷ 2 ∷ 0 ∷ 0 ∷ 1 ∷ 5 ∷ 0 ∷ []))
    ∷ (shows_at 1000 expired_calls gives (1 ∷ 19 ∷ 136 ∷ 23 ∷ 112 ∷ 0 ∷ 0 ∷ 0 ∷ 1 ∷ 0 ∷ 0 ∷ 0 ∷ 0 ∷ 0 ∷ 3 ∷ 0 ∷ 20 ∷ 0 ∷ 0 ∷ 0 ∷ 7 ∷ 0 ∷ 5 ∷ 0 ∷ 0 ∷ 0 ∷ 0 ∷ 0 ∷ 53 ∷ 140 ∷ 33 ∷ 255 ∷ 114 ∷ 0 ∷ []))
    ∷ (fires_at 1000 expired_calls gives (3 ∷ 7 ∷ 0 ∷ 4 ∷ 7 ∷ 0 ∷ 1 ∷ 5 ∷ 0 ∷ 2 ∷ 0 ∷ 0 ∷ 1 ∷ 6 ∷ 0 ∷ 3 ∷ 9 ∷ 0 ∷ 4 ∷ 9 ∷ 0 ∷ []))
    ∷ (shows_at 12 i_data_calls gives (3 ∷ 19 ∷ 136 ∷ 23 ∷ 112 ∷ 0 ∷ 0 ∷ 0 ∷ 1 ∷ 0 ∷ 0 ∷ 0 ∷ 0 ∷ 64 ∷ 6 ∷ 0 ∷ 32 ∷ 0 ∷ 0 ∷ 0 ∷ 7 ∷ 0 ∷ 3 ∷ 0 ∷ 0 ∷ 0 ∷ 0 ∷ 0 ∷ 0 ∷ 0 ∷ 0 ∷ 0 ∷ 51 ∷ 140 ∷ 33 ∷ 255 ∷ 114 ∷ 237 ∷ 215 ∷ 24 ∷ 217 ∷ 78 ∷ 19 ∷ 149 ∷ 19 ∷ 64 ∷ 2 ∷ 0 ∷ 32 ∷ 0 ∷ 0 ∷ 0 ∷ 8 ∷ 0 ∷ 5 ∷ 0 ∷ 0 ∷ 0 ∷ 0 ∷ 0 ∷ 0 ∷ 0 ∷ 0 ∷ 0 ∷ 53 ∷ 198 ∷ 126 ∷ 129 ∷ 107 ∷ 75 ∷ 251 ∷ 226 ∷ 251 ∷ 84 ∷ 246 ∷ 189 ∷ 223 ∷ 64 ∷ 4 ∷ 0 ∷ 24 ∷ 0 ∷ 0 ∷ 0 ∷ 9 ∷ 0 ∷ 3 ∷ 0 ∷ 0 ∷ 0 ∷ 0 ∷ 0 ∷ 0 ∷ 0 ∷ 0 ∷ 0 ∷ 1 ∷ 220 ∷ 27 ∷ 99 ∷ 252 ∷ 3 ∷ 19 ∷ 136 ∷ 23 ∷ 112 ∷ 0 ∷ 0 ∷ 0 ∷ 1 ∷ 0 ∷ 0 ∷ 0 ∷ 0 ∷ 64 ∷ 5 ∷ 0 ∷ 24 ∷ 0 ∷ 0 ∷ 0 ∷ 10 ∷ 0 ∷ 3 ∷ 0 ∷ 0 ∷ 0 ∷ 0 ∷ 0 ∷ 0 ∷ 0 ∷ 0 ∷ 0 ∷ 2 ∷ 147 ∷ 6 ∷ 246 ∷ 191 ∷ 64 ∷ 0 ∷ 0 ∷ 32 ∷ 0 ∷ 0 ∷ 0 ∷ 11 ∷ 0 ∷ 5 ∷ 0 ∷ 0 ∷ 0 ∷ 0 ∷ 0 ∷ 0 ∷ 0 ∷ 0 ∷ 0 ∷ 1 ∷ 124 ∷ 28 ∷ 225 ∷ 135 ∷ 1 ∷ 191 ∷ 49 ∷ 222 ∷ 86 ∷ 114 ∷ 15 ∷ 71 ∷ 64 ∷ 1 ∷ 0 ∷ 26 ∷ 0 ∷ 0 ∷ 0 ∷ 12 ∷ 0 ∷ 5 ∷ 0 ∷ 0 ∷ 0 ∷ 0 ∷ 0 ∷ 0 ∷ 0 ∷ 0 ∷ 0 ∷ 2 ∷ 103 ∷ 102 ∷ 135 ∷ 89 ∷ 170 ∷ 136 ∷ 0 ∷ 0 ∷ 0 ∷ []))
    ∷ (fires_at 12 i_data_calls gives (1 ∷ 3 ∷ 0 ∷ 2 ∷ 0 ∷ 0 ∷ 1 ∷ 5 ∷ 0 ∷ []))
    ∷ (shows_at 1000 refused_calls gives (999 ∷ 20 ∷ 999 ∷ 20 ∷ 999 ∷ 21 ∷ 999 ∷ 20 ∷ 999 ∷ 2 ∷ 999 ∷ 3 ∷ 999 ∷ 4 ∷ 1 ∷ 0 ∷ 1 ∷ 0 ∷ 2 ∷ 0 ∷ 0 ∷ 0 ∷ 3 ∷ 0 ∷ 0 ∷ 0 ∷ 0 ∷ 0 ∷ 2 ∷ 0 ∷ 24 ∷ 0 ∷ 0 ∷ 0 ∷ 4 ∷ 0 ∷ 5 ∷ 0 ∷ 0 ∷ 0 ∷ 0 ∷ 0 ∷ 53 ∷ 198 ∷ 126 ∷ 129 ∷ 107 ∷ 75 ∷ 251 ∷ 226 ∷ 251 ∷ 1 ∷ 0 ∷ 1 ∷ 0 ∷ 2 ∷ 0 ∷ 0 ∷ 0 ∷ 3 ∷ 0 ∷ 0 ∷ 0 ∷ 0 ∷ 0 ∷ 1 ∷ 0 ∷ 38 ∷ 0 ∷ 0 ∷ 0 ∷ 5 ∷ 0 ∷ 5 ∷ 0 ∷ 0 ∷ 0 ∷ 0 ∷ 0 ∷ 53 ∷ 84 ∷ 246 ∷ 189 ∷ 223 ∷ 124 ∷ 28 ∷ 225 ∷ 135 ∷ 1 ∷ 191 ∷ 49 ∷ 222 ∷ 86 ∷ 114 ∷ 15 ∷ 71 ∷ 103 ∷ 102 ∷ 135 ∷ 89 ∷ 170 ∷ 136 ∷ 0 ∷ 0 ∷ []))
    ∷ (fires_at 1000 refused_calls gives (2 ∷ 0 ∷ 0 ∷ 1 ∷ 5 ∷ 0 ∷ []))
    ∷ (shows_at 10 limit_calls gives (3 ∷ 19 ∷ 136 ∷ 19 ∷ 137 ∷ 0 ∷ 0 ∷ 0 ∷ 9 ∷ 0 ∷ 0 ∷ 0 ∷ 0 ∷ 0 ∷ 2 ∷ 0 ∷ 26 ∷ 0 ∷ 0 ∷ 0 ∷ 7 ∷ 0 ∷ 5 ∷ 0 ∷ 0 ∷ 0 ∷ 0 ∷ 0 ∷ 53 ∷ 198 ∷ 126 ∷ 129 ∷ 107 ∷ 75 ∷ 251 ∷ 226 ∷ 251 ∷ 84 ∷ 246 ∷ 0 ∷ 0 ∷ 0 ∷ 0 ∷ 0 ∷ 26 ∷ 0 ∷ 0 ∷ 0 ∷ 8 ∷ 0 ∷ 5 ∷ 0 ∷ 0 ∷ 0 ∷ 0 ∷ 0 ∷ 53 ∷ 189 ∷ 223 ∷ 124 ∷ 28 ∷ 225 ∷ 135 ∷ 1 ∷ 191 ∷ 49 ∷ 222 ∷ 0 ∷ 0 ∷ 0 ∷ 1 ∷ 0 ∷ 21 ∷ 0 ∷ 0 ∷ 0 ∷ 9 ∷ 0 ∷ 5 ∷ 0 ∷ 0 ∷ 0 ∷ 0 ∷ 0 ∷ 53 ∷ 86 ∷ 114 ∷ 15 ∷ 71 ∷ 103 ∷ 0 ∷ 0 ∷ 0 ∷ []))
    ∷ []

pub packets_filled : map (λ r. r.given) packets ≡ map (λ r. r.said) packets
unfolding packets padding chunk_layout
packets_filled = refl
