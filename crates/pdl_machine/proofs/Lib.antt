mod FlatForm
mod AcceptedPipes
mod RunPromises
mod Bits
