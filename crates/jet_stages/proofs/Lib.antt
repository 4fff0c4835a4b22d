mod Calls
mod Flats
mod Knowing
mod Marking
mod Queues
mod Stamping
mod Stamps
