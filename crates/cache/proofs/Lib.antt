-- The lemmas behind the cache.
mod Rings
mod Slots
mod Overlay
mod Calls
mod Sending
